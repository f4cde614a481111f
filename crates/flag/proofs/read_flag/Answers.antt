-- `flag::read_flag` meets its contract. Assumes nothing.
use native.Mathlib.Omega.{arith}
use Rattle.codec.specs.Refusals.{answer_of}
use Rattle.flag.proofs.Leaf.{flag-read, flag-short}
use Rattle.flag.proofs.read_flag.Goals as goal

pub returns-then-end-k : goal.returns-then-end-k
unfolding answer_of
returns-then-end-k c = flag-short _ _ (omega arith)

pub returns : goal.returns
unfolding answer_of
returns c = flag-read _ _ _ (omega arith) c.read_bits-b.ensures
