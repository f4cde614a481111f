-- `flag::read_must` meets its contract. Assumes nothing.
use Rattle.codec.specs.Refusals.{answer_of}
use Rattle.codec.proofs.Compose.{handed, ended_with, stopping, reading-got, tested-refused, tested-got}
use Rattle.flag.proofs.Leaf.{same-not, same-so}
use Rattle.flag.proofs.read_must.Goals as goal

pub returns-in_err-x : goal.returns-in_err-x
returns-in_err-x c = rw (handed _ c.in_err-x.field-0.0 c.from_residual.ensures.1) (search (stopping, c.in_err-x.ensures) depth 12)

pub returns-then-x-b : goal.returns-then-x-b
unfolding answer_of
returns-then-x-b c = tested-refused _ _ _ _ _ _ _ (reading-got _ _ _ _ _ c.in_ok-x.ensures) (same-not _ _ c.if-x-b.true)

pub returns : goal.returns
returns c = ended_with _ _ _ _ _ (tested-got _ _ _ _ _ _ _ (reading-got _ _ _ _ _ c.in_ok-x.ensures) (same-so _ _ c.if-x-b.false))
