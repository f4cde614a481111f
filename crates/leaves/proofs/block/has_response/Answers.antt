-- `leaves::block::has_response` meets its contract. Assumes nothing.
use Rattle.record_octets.specs.Record.{block_in, optional_response_in}
use Rattle.leaves.proofs.block.has_response.Goals as goal

pub returns : goal.returns
unfolding block_in optional_response_in
returns c = c.load_flag.ensures
