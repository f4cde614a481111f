-- Fields: in two parts, their bound, their bits, and the parts of one that lie in an octet, read and replaced. Assumes nothing.
use mathlib.Core.Path.{◌≡◌, refl, sym, ap, ap₂, ◌∙◌}
use mathlib.Core.Bool.{Bool}
use mathlib.Core.List.{List, ◌++◌}
use Prim.Native.Nat.{ℕ, ◌+◌, ◌-◌, ◌*◌, ◌/◌, ◌%◌, ◌^◌, ◌≤◌, ◌<◌, min}
use native.Mathlib.Nat.{lt_of_lt_of_le}
use native.Mathlib.Omega.{arith}
use lib.ListN.{length, take, drop, get_or, set, length-take, length-drop}
use lib.Seq.{take-add, drop-drop, length-take-le}
use lib.Pow.{pow_mono}
use Rattle.bits.specs.Bits.{low_bits, value, bits_of, field, splice}
use Rattle.bits.proofs.NumberBits.{length-low_bits, value-low_bits, value-append, value-lt, value-low_bits-lt}
use Rattle.bits.proofs.OctetBits.{length-bits_of, bits_before, bits_from, length_before, bits-cut, bits-patched, fragment-bits}
use Rattle.bits.proofs.Splices.{splice-mid, part-splice}

-- a field of no bits, a field in two parts, and its bound
pub field-none : (s : List ℕ) (at : ℕ) → field s at 0 ≡ 0
unfolding field value
field-none s at = refl

pub field-add : (s : List ℕ) (at i j : ℕ) → at + i ≤ 8 * length s → field s at (i + j) ≡ field s at i + 2 ^ i * field s (at + i) j
unfolding field
field-add s at i j h =
    let L : List Bool = drop at (bits_of s) in
    let lb : length (bits_of s) ≡ 8 * length s = length-bits_of s in
    let ll : length L ≡ length (bits_of s) - at = length-drop at (bits_of s) in
    let lt : length (take i L) ≡ i = length-take-le i L (omega arith) in
    ap value (take-add i j L)
    ∙ value-append (take i L) (take j (drop i L))
    ∙ ap₂ (λ (k : ℕ) (l : List Bool). value (take i L) + 2 ^ k * value (take j l)) lt (drop-drop i at (bits_of s))

pub field_lt : (s : List ℕ) (at w : ℕ) → field s at w < 2 ^ w
unfolding field
field_lt s at w =
    let L : List Bool = drop at (bits_of s) in
    let l : length (take w L) ≡ min w (length L) = length-take w L in
    lt_of_lt_of_le (value-lt (take w L)) (pow_mono (omega arith))

-- what was written is read
pub field-spliced : (s t : List ℕ) (at w v : ℕ) → at ≤ 8 * length s → v < 2 ^ w → bits_of t ≡ splice (bits_of s) at (low_bits w v) → field t at w ≡ v
unfolding field
field-spliced s t at w v h hv e =
    let lb : length (bits_of s) ≡ 8 * length s = length-bits_of s in
    let p : take w (drop at (splice (bits_of s) at (low_bits w v))) ≡ low_bits w v =
    ap (λ (k : ℕ). take k (drop at (splice (bits_of s) at (low_bits w v)))) (sym (length-low_bits w v)) ∙ part-splice (bits_of s) at (low_bits w v) (omega arith) in
    ap (λ (l : List Bool). value (take w (drop at l))) e ∙ ap value p ∙ value-low_bits-lt w v hv

-- the part of a field that lies in one octet
pub fragment-field : (s : List ℕ) (o b n : ℕ) → o < length s → b + n ≤ 8 → field s (8 * o + b) n ≡ get_or s o 0 / 2 ^ b % 2 ^ n
unfolding field
fragment-field s o b n h k = ap value (fragment-bits s o b n h k) ∙ value-low_bits n (get_or s o 0 / 2 ^ b)

-- an octet that is replaced by one that differs in its n bits from bit b on alone
pub fragment-splice : (s : List ℕ) (o b n y f : ℕ) → o < length s → b + n ≤ 8
    → low_bits 8 y ≡ low_bits b (get_or s o 0) ++ (low_bits n f ++ low_bits (8 - (b + n)) (get_or s o 0 / 2 ^ (b + n)))
    → bits_of (set s o y) ≡ splice (bits_of s) (8 * o + b) (low_bits n f)
fragment-splice s o b n y f h k d =
    let x : ℕ = get_or s o 0 in
    bits-patched s o b n h k y f d
    ∙ sym (ap (λ (z : List Bool). splice z (8 * o + b) (low_bits n f)) (bits-cut s o b n h k)
    ∙ splice-mid (bits_before s o b) (low_bits n (x / 2 ^ b)) (bits_from s o (b + n)) (low_bits n f) (8 * o + b) (length_before s o b h)
    (length-low_bits n (x / 2 ^ b) ∙ sym (length-low_bits n f)))
