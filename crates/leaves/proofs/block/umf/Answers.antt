-- `leaves::block::umf` meets its contract. Assumes nothing.
use Rattle.record_octets.specs.Record.{block_in, format_in}
use Rattle.leaves.proofs.block.umf.Goals as goal

pub returns : goal.returns
unfolding block_in format_in
returns c = c.load_word.ensures
