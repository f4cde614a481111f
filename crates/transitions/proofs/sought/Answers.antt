-- `transitions::sought` meets its contract. Assumes nothing.
use mathlib.Core.Path.{refl, ap, sym, ◌∙◌}
use native.Mathlib.Omega.{arith}
use Rattle.codec.proofs.Compose.{handed}
use Rattle.arguments.specs.Told.{pending_no, Answer, answer_says, answer_place}
use Rattle.arguments.proofs.Told.{plain-says, answer-bad}
use Rattle.transitions.proofs.sought.Goals as goal

pub returns-in_default : goal.returns-in_default
unfolding pending_no
returns-in_default c = let e = plain-says _ _ c.from.ensures in (rw (← c.in_default.ensures.0) e.0, rw e.0 (omega arith), e.1)

pub returns-in_err-said : goal.returns-in_err-said
returns-in_err-said c = rw (handed _ c.in_err-said.field-0.0 c.from_residual.ensures.1) (rw (← c.in-Some.ensures.0, c.in_err-said.was) refl, answer-bad _, rw c.in_err-said.was at c.requires.2)

pub returns : goal.returns
unfolding answer_says
returns c = (sym c.in-Some.ensures.0, ap (λ (a : Answer). (answer_says a).number) c.in_ok-said.was, c.in-Some.ensures.1)
