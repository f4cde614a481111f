-- An optional number has a codec's laws. Assumes nothing.
use Prim.Native.Nat.{◌<◌, ◌^◌}
use mathlib.Core.Path.{refl}
use lib.Dec.{lit<}
use Rattle.codec.proofs.Lawful.{Lawful}
use Rattle.codec.proofs.Fields.{number-lawful}
use Rattle.codec.proofs.Sequences.{optional-lawful}
use Rattle.codec.proofs.Views.{shaped-lawful}
use Rattle.optional.specs.Optionals.{optional_number}
use Rattle.number.specs.declared.Range.{Range}

pub optional-number-lawful : (f : Range) → 0 < f.width → f.most < 2 ^ f.width → Lawful (optional_number f)
unfolding optional_number
optional-number-lawful f h k = shaped-lawful _ _ (optional-lawful 0 (number-lawful f.width f.least f.most 3 h k (lit< tt))) (λ x. refl)
