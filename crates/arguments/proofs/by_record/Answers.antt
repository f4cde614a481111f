-- `arguments::by_record` meets its contract. Assumes nothing.
use mathlib.Core.Path.{refl}
use Rattle.arguments.specs.Told.{pending_no, answer_says, answer_place, written_says}
use Rattle.arguments.proofs.by_record.Goals as goal

pub returns-in-Ok : goal.returns-in-Ok
unfolding answer_says answer_place written_says
returns-in-Ok c = rw c.in-Ok.is (refl, refl)

pub returns-in-Err : goal.returns-in-Err
unfolding answer_says answer_place written_says pending_no
returns-in-Err c = rw c.in-Err.is (refl, refl)
