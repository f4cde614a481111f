-- `cells::move_up` meets its contract. The invariant: those from k on have moved up. Assumes nothing.
use native.Mathlib.Omega.{arith}
use Rattle.cells.proofs.Shift.{raised-none, raised-more, raised-done}
use Rattle.cells.proofs.move_up.Goals as goal

pub loop-k-init : goal.loop-k-init
loop-k-init c = raised-none _ _ _ _ c.requires.0 c.requires.1

pub loop-k-preserved : goal.loop-k-preserved
loop-k-preserved c = raised-more _ _ _ _ _ _ _ _ c.loop-k.invariant (omega arith) (omega arith)

pub shape_of-t : goal.shape_of-t
shape_of-t c = c.loop-k.invariant.long

pub returns : goal.returns
returns c = raised-done _ _ _ _ _ _ c.loop-k.invariant (omega arith)
