-- `leaves::block::has_origin` meets its contract. Assumes nothing.
use Rattle.record_octets.specs.Record.{block_in, times_in, optional_stamp_in}
use Rattle.leaves.proofs.block.has_origin.Goals as goal

pub returns : goal.returns
unfolding block_in times_in optional_stamp_in
returns c = c.load_flag.ensures
