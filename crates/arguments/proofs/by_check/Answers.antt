-- `arguments::by_check` meets its contract. Assumes nothing.
use mathlib.Core.Path.{refl, ap, sym, ◌∙◌}
use Rattle.codec.specs.Refusals.{check_no}
use Rattle.arguments.specs.Told.{pending_no, answer_says, answer_place}
use Rattle.arguments.proofs.by_check.Goals as goal

pub returns-in-Ok : goal.returns-in-Ok
unfolding answer_says answer_place check_no
returns-in-Ok c = rw c.in-Ok.is (refl, refl)

pub returns-in-Err : goal.returns-in-Err
unfolding check_no pending_no
returns-in-Err c = rw c.in-Err.is c.refusal.ensures
