-- `leaves::block::message_size` meets its contract. Assumes nothing.
use Rattle.record_octets.specs.Record.{block_in, handling_in}
use Rattle.leaves.proofs.block.message_size.Goals as goal

pub returns : goal.returns
unfolding block_in handling_in
returns c = c.load_optional.ensures
