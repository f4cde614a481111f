-- `cells::copy` meets its contract. Assumes nothing.
use Rattle.cells.proofs.Copying.{Copied}
use Rattle.cells.proofs.copy.Given as goal

abbrev pub invariant-loop-i : goal.invariant-loop-i
invariant-loop-i l = Copied l.t l.initial.t l.s l.to l.from l.n l.i
