-- `leaves::block::has_cantco` meets its contract. Assumes nothing.
use Rattle.record_octets.specs.Record.{block_in, optional_response_in, response_in, compliance_in, optional_number_in}
use Rattle.leaves.proofs.block.has_cantco.Goals as goal

pub returns : goal.returns
unfolding block_in optional_response_in response_in compliance_in optional_number_in
returns c = c.load_flag.ensures
