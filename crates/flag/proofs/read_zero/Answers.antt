-- `flag::read_zero` meets its contract. Assumes nothing.
use Rattle.codec.specs.Refusals.{answer, answer_of}
use Rattle.codec.proofs.Compose.{handed, stopping}
use Rattle.flag.proofs.Leaf.{must-value}
use Rattle.flag.proofs.read_zero.Goals as goal

pub returns-in_err-next : goal.returns-in_err-next
returns-in_err-next c = rw (handed _ c.in_err-next.field-0.0 c.from_residual.ensures.1) (search (stopping, c.in_err-next.ensures) depth 12)

pub returns : goal.returns
unfolding answer answer_of
returns c = let h = c.in_ok-next.ensures in rw (must-value _ _ _ _ _ _ h) at h
