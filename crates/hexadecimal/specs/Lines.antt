-- A line of the program's input, without its line feed: the octets that its digits are, or none.
use Rattle.std.specs.Prelude.{ℕ, ◌+◌, ◌*◌, ◌-◌, ◌%◌, Bool, true, ◌&&◌, List, [], ◌∷◌, ◌++◌, length, drop, leb, eqb}
use Rattle.std.proofs.Math.Option.{Option, none, some}
use Rattle.codec.specs.Answer.{pick}
use Rattle.std.specs.Prelude as std
use Rattle.bits.specs.declared.OctetSize.{OctetSize}

-- the value of a hexadecimal digit: 0 to 9 from 48 on, A to F from 65 on, a to f from 97 on
unfoldable pub digit_of : ℕ → Option ℕ
digit_of c =
    pick (leb 48 c && leb c 57) (some (c - 48))
    (pick (leb 65 c && leb c 70) (some (c - 55)) (pick (leb 97 c && leb c 102) (some (c - 87)) none))

-- 16 stands for no digit
unfoldable pub or_sixteen : Option ℕ → ℕ
or_sixteen none = 16
or_sixteen (some n) = n

abbrev pub value_of : ℕ → ℕ
value_of c = or_sixteen (digit_of c)

unfoldable pub all_digits : List ℕ → Bool
all_digits [] = true
all_digits (c ∷ l) = leb (value_of c) 15 && all_digits l

-- two digits are an octet, the left one its upper half
unfoldable pub octets_in : List ℕ → List ℕ
octets_in [] = []
octets_in (a ∷ []) = []
octets_in (a ∷ b ∷ l) = (value_of a % 16 * 16 + value_of b % 16) ∷ octets_in l

-- at most 16,384 characters, an even count of them, digits throughout
abbrev pub is_line : List ℕ → Bool
is_line l = leb (length l) 16384 && (eqb (length l % 2) 0 && all_digits l)

-- the datagram in a line: none where the line is skipped. An empty line is the datagram with no octets, which no reading accepts, so it changes nothing
unfoldable pub octets_of : List ℕ → Option (List ℕ)
octets_of l = pick (is_line l) (some (octets_in l)) none

-- what the call's result tells, and what it has to tell: the count of the octets, or that the line is skipped
unfoldable pub told : std.Option OctetSize → Option ℕ
told std.None = none
told (std.Some n) = some n.0

unfoldable pub to_tell : Option (List ℕ) → Option ℕ
to_tell none = none
to_tell (some s) = some (length s)

-- the output afterwards: the octets at its beginning, and every other octet as it was
unfoldable pub output_after : Option (List ℕ) → List ℕ → List ℕ
output_after none out = out
output_after (some s) out = s ++ drop (length s) out
