-- A number that may be absent.
use Rattle.codec.specs.Codec.{Codec, optional, shaped}
use Rattle.number.specs.Numbers.{number_of}
use Rattle.number.specs.declared.Range.{Range}
use Rattle.optional.specs.declared.OptionalNumber.{OptionalNumber}

-- [a number]
unfoldable pub optional_number : Range → Codec OptionalNumber
optional_number f = shaped (λ x. record { present = x.0; value = x.1 }) (λ y. (y.present, y.value)) (optional 0 (number_of f 3))
