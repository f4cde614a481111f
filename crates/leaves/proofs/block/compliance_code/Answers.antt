-- `leaves::block::compliance_code` meets its contract. Assumes nothing.
use Rattle.record_octets.specs.Record.{block_in, optional_response_in, response_in, compliance_in}
use Rattle.leaves.proofs.block.compliance_code.Goals as goal

pub returns : goal.returns
unfolding block_in optional_response_in response_in compliance_in
returns c = c.load_word.ensures
