-- `cells::copy` meets its contract. Assumes nothing.
use native.Mathlib.Omega.{arith}
use Rattle.cells.proofs.Copying.{copied_none, copied_more, copied_all}
use Rattle.cells.proofs.copy.Goals as goal

pub loop-i-init : goal.loop-i-init
loop-i-init c = copied_none _ _ _ _ _ c.requires.0 c.requires.1

pub loop-i-preserved : goal.loop-i-preserved
loop-i-preserved c = copied_more _ _ _ _ _ _ _ c.loop-i.invariant (omega arith)

pub shape_of-t : goal.shape_of-t
shape_of-t c = c.loop-i.invariant.long

pub returns : goal.returns
returns c = copied_all _ _ _ _ _ _ _ c.loop-i.invariant (omega arith)
