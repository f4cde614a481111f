-- A number as the layout has it.
use Rattle.std.specs.Prelude.{ℕ}
use Rattle.codec.specs.Codec.{Codec, number}
use Rattle.number.specs.declared.Range.{Range}

-- a number of a range's bits, from its least to its most; fault is the refusal of another one
abbrev pub number_of : Range → ℕ → Codec ℕ
number_of f fault = number f.width f.least f.most fault
