-- `answers::of_call` meets its contract. Assumes nothing.
use mathlib.Core.Path.{refl}
use Rattle.arguments.specs.Told.{answer_says, answer_place}
use Rattle.answers.proofs.of_call.Goals as goal

pub returns-in-Ok : goal.returns-in-Ok
unfolding answer_says answer_place
returns-in-Ok c = rw c.in-Ok.is (refl, refl)

pub returns-in-Err : goal.returns-in-Err
unfolding answer_says answer_place
returns-in-Err c = rw (c.in-Err.is, c.from.ensures) (refl, refl)
