-- `answers::of_writing` meets its contract. Assumes nothing.
use Rattle.writer.specs.Writing.{told}
use Rattle.answers.specs.Numbers.{write_numbers}
use Rattle.answers.proofs.of_writing.Goals as goal

pub returns-in-Ok : goal.returns-in-Ok
unfolding told write_numbers
returns-in-Ok c = cc

pub returns-in-Err : goal.returns-in-Err
unfolding told write_numbers
returns-in-Err c = rw (c.in-Err.is, ← c.from.ensures) c.refused.ensures
