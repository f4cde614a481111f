-- `number::read_number` meets its contract. Assumes nothing.
use native.Mathlib.Omega.{arith}
use Rattle.codec.specs.Refusals.{answer_of}
use Rattle.number.proofs.Leaf.{number_short, number-low, number-high, number-got}
use Rattle.number.proofs.read_number.Goals as goal
use Rattle.number.proofs.read_number.Goals.{then-end-w-via-then-end-w, then-end-w-via-else-end-w+then-end-w-2, then-v-f-via-then-v-f, then-v-f-via-else-v-f+then-f-v}

pub returns-then-end-w : goal.returns-then-end-w
unfolding answer_of
returns-then-end-w c =
    elim c.then-end-w.branch [
      | then-end-w-via-then-end-w w ↦ number_short _ _ _ _ _ _ (omega arith)
      | then-end-w-via-else-end-w+then-end-w-2 w ↦ number_short _ _ _ _ _ _ (omega arith)
    ]

pub returns-then-v-f : goal.returns-then-v-f
unfolding answer_of
returns-then-v-f c =
    elim c.then-v-f.branch [
      | then-v-f-via-then-v-f w ↦ number-low _ _ _ _ _ _ _ (omega arith) c.read_bits-v.ensures (omega arith)
      | then-v-f-via-else-v-f+then-f-v w ↦ number-high _ _ _ _ _ _ _ (omega arith) c.read_bits-v.ensures (omega arith) (omega arith)
    ]

pub returns : goal.returns
unfolding answer_of
returns c = number-got _ _ _ _ _ _ _ (omega arith) c.read_bits-v.ensures (omega arith) (omega arith)
