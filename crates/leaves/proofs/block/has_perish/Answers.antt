-- `leaves::block::has_perish` meets its contract. Assumes nothing.
use Rattle.record_octets.specs.Record.{block_in, times_in, optional_dtg_in}
use Rattle.leaves.proofs.block.has_perish.Goals as goal

pub returns : goal.returns
unfolding block_in times_in optional_dtg_in
returns c = c.load_flag.ensures
