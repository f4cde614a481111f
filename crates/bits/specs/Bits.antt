-- Bits of octets, low bit first, the number that bits are, a field of bits, and a splice.
use Rattle.std.specs.Prelude.{ℕ, zero, suc, ◌+◌, ◌*◌, ◌/◌, ◌%◌, ◌^◌, ◌<◌, Bool, true, false, List, [], ◌∷◌, ◌++◌, length, take, drop, eqb}

-- a bit is true where it is 1
abbrev pub weight : Bool → ℕ
weight true = 1
weight false = 0

-- bit k of a number: the one of weight 2 ^ k
abbrev pub bit_of : ℕ → ℕ → Bool
bit_of v k = eqb (v / 2 ^ k % 2) 1

-- the w low bits of a number, low bit first
unfoldable pub low_bits : ℕ → ℕ → List Bool
low_bits zero v = []
low_bits (suc w) v = eqb (v % 2) 1 ∷ low_bits w (v / 2)

-- the number whose bits these are, low bit first
unfoldable pub value : List Bool → ℕ
value [] = 0
value (b ∷ bs) = weight b + 2 * value bs

-- the bits of octets, those of the first octet first
unfoldable pub bits_of : List ℕ → List Bool
bits_of [] = []
bits_of (x ∷ xs) = low_bits 8 x ++ bits_of xs

-- every number is an octet: so is each of a slice of `u8`
abbrev pub AllOctets : List ℕ → Type 0
AllOctets [] = Unit {0}
AllOctets (x ∷ xs) = (x < 256) × AllOctets xs

-- the number in the w bits from place `at` on
unfoldable pub field : List ℕ → ℕ → ℕ → ℕ
field s at w = value (take w (drop at (bits_of s)))

-- a splice: s with the bits bs from place `at` on, and every other bit as it was
unfoldable pub splice : List Bool → ℕ → List Bool → List Bool
splice s at bs = take at s ++ (bs ++ drop (at + length bs) s)

-- n octets from bits, eight to each
unfoldable pub octets : ℕ → List Bool → List ℕ
octets zero bs = []
octets (suc n) bs = value (take 8 bs) ∷ octets n (drop 8 bs)
