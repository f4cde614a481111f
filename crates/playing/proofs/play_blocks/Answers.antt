-- `playing::play_blocks` meets its contract. The invariant: the calls of the first i blocks are made. Assumes nothing.
use Rattle.playing.proofs.Playing.{behind-none, behind_more, behind-all}
use Rattle.playing.proofs.play_blocks.Goals as goal

pub loop-i-init : goal.loop-i-init
loop-i-init c = (c.block_count-i-end.ensures, behind-none _ _ _)

pub loop-i-preserved : goal.loop-i-preserved
loop-i-preserved c = let e = c.loop-i.invariant.0 in (e, behind_more _ _ _ _ _ _ c.loop-i.invariant.1 (rw e at c.loop-i-test.true) c.play_block.ensures)

pub returns : goal.returns
returns c = let e = c.loop-i.invariant.0 in behind-all _ _ _ _ _ c.loop-i.invariant.1 (rw e at c.loop-i-test.false)
