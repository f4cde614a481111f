-- `cells::move_up` meets its contract. The invariant: those from k on have moved up. Assumes nothing.
use Rattle.cells.proofs.Shift.{Raised}
use Rattle.cells.proofs.move_up.Given as goal

abbrev pub invariant-loop-k : goal.invariant-loop-k
invariant-loop-k l = Raised l.t l.initial.t l.from l.to l.by l.k
