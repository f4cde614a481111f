-- `number::check_number` meets its contract. Assumes nothing.
use native.Mathlib.Omega.{arith}
use Rattle.codec.specs.Refusals.{check_no}
use Rattle.number.proofs.Leaf.{check-low, check-high, check-fine}
use Rattle.number.proofs.check_number.Goals as goal
use Rattle.number.proofs.check_number.Goals.{then-x-f-via-then-x-f, then-x-f-via-else-x-f+then-f-x}

pub returns-then-x-f : goal.returns-then-x-f
unfolding check_no
returns-then-x-f c =
    elim c.then-x-f.branch [
      | then-x-f-via-then-x-f w ↦ check-low _ _ _ _ _ (omega arith)
      | then-x-f-via-else-x-f+then-f-x w ↦ check-high _ _ _ _ _ (omega arith) (omega arith)
    ]

pub returns : goal.returns
unfolding check_no
returns c = check-fine _ _ _ _ _ (omega arith) (omega arith)
