-- `answers::of_reading` meets its contract. Assumes nothing.
use mathlib.Core.Path.{◌≡◌, refl}
use Rattle.bits.specs.declared.OctetSize.{OctetSize}
use Rattle.codec.specs.declared.Fault.{Fault}
use Rattle.codec.specs.declared.Refusal.{Refusal}
use Rattle.std.specs.Prelude.{Result, Ok, Err}
use Rattle.reader.specs.Told.{told}
use Rattle.writer.specs.Writing as writer
use Rattle.answers.specs.Numbers.{read_numbers, write_numbers}
use Rattle.answers.proofs.of_reading.Goals as goal

-- the same numbers
alike : (a : Result OctetSize (Refusal Fault)) → write_numbers (writer.told a) ≡ read_numbers (told a)
unfolding write_numbers read_numbers told writer.told
alike (Ok n) = refl
alike (Err e) = refl

pub returns : goal.returns
returns c = cc (alike c.args.answer)
