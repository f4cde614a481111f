-- A step of writing: an octet with a part replaced, and what is written so far; and the steps of a field in one octet and in two. Assumes nothing.
use mathlib.Core.Path.{◌≡◌, sym, ap, ap₂, ◌∙◌, subst}
use mathlib.Core.Bool.{Bool}
use mathlib.Core.List.{List, ◌++◌}
use Prim.Native.Nat.{ℕ, ◌+◌, ◌-◌, ◌*◌, ◌/◌, ◌%◌, ◌^◌, ◌≤◌, ◌<◌}
use native.Mathlib.Nat.{mod-lt, zero-add}
use native.Mathlib.Omega.{arith}
use lib.ListN.{length, get_or, set, length-set}
use lib.Pow.{pow_pos}
use Rattle.bits.specs.Bits.{low_bits, bits_of, splice}
use Rattle.bits.proofs.NumberBits.{length-low_bits, low_bits-add, low_bits-mod}
use Rattle.bits.proofs.Splices.{splice-nil, splice-splice}
use Rattle.bits.proofs.Fields.{fragment-splice}

-- a part of n bits is below 2 ^ n
pub part-lt : (x n f : ℕ) → f ≡ x % 2 ^ n → f < 2 ^ n
part-lt x n f e = subst (λ (k : ℕ). k < 2 ^ n) (sym e) (mod-lt x (pow_pos n))

-- y is the octet x with f for its n bits from bit b on
abbrev pub Patched : ℕ → ℕ → ℕ → ℕ → ℕ → Type 0
Patched x b n f y = low_bits 8 y ≡ low_bits b x ++ (low_bits n f ++ low_bits (8 - (b + n)) (x / 2 ^ (b + n)))

-- the bits done are written; the n bits behind them go into octet o, from its bit b on
module _ (s₀ s : List ℕ) (at v done n o b f y : ℕ) (index : o < length s) (within : b + n ≤ 8) (place : at + done ≡ 8 * o + b)
    (written : bits_of s ≡ splice (bits_of s₀) at (low_bits done v)) (part : f ≡ v / 2 ^ done % 2 ^ n) (patched : Patched (get_or s o 0) b n f y) where
  pub write-more : bits_of (set s o y) ≡ splice (bits_of s₀) at (low_bits (done + n) v)
  write-more =
      let B : List Bool = bits_of s₀ in
      let ld : length (low_bits done v) ≡ done = length-low_bits done v in
      let at_place : 8 * o + b ≡ at + length (low_bits done v) = sym place ∙ ap (λ (k : ℕ). at + k) (sym ld) in
      let d : low_bits n f ≡ low_bits n (v / 2 ^ done) = ap (low_bits n) part ∙ low_bits-mod n (v / 2 ^ done) in
      fragment-splice s o b n y f index within patched
      ∙ ap₂ (λ (z : List Bool) (k : ℕ). splice z k (low_bits n f)) written at_place
      ∙ splice-splice B at (low_bits done v) (low_bits n f)
      ∙ ap (λ (l : List Bool). splice B at (low_bits done v ++ l)) d
      ∙ ap (splice B at) (sym (low_bits-add done n v))

-- where nothing is written yet
pub none_written : (s : List ℕ) (at v : ℕ) → bits_of s ≡ splice (bits_of s) at (low_bits 0 v)
unfolding low_bits
none_written s at v = sym (splice-nil (bits_of s) at)

-- a field in octet o, from its bit b on
pub one_written : (s : List ℕ) (v n o b f y : ℕ) → o < length s → b + n ≤ 8 → f ≡ v / 2 ^ 0 % 2 ^ n → Patched (get_or s o 0) b n f y
    → bits_of (set s o y) ≡ splice (bits_of s) (8 * o + b) (low_bits n v)
one_written s v n o b f y h k part patched =
    write-more s s (8 * o + b) v 0 n o b f y h k (omega arith) (none_written s (8 * o + b) v) part patched
    ∙ ap (λ (m : ℕ). splice (bits_of s) (8 * o + b) (low_bits m v)) (zero-add n)

-- a field in octet o, from its bit b on, and in the octet behind it
pub two-written : (s : List ℕ) (v w o b f g y z : ℕ) → 8 * o + b + w ≤ 8 * length s → b < 8 → 8 < b + w → b + w ≤ 16
    → f ≡ v / 2 ^ 0 % 2 ^ (8 - b) → Patched (get_or s o 0) b (8 - b) f y
    → g ≡ v / 2 ^ (8 - b) % 2 ^ (w - (8 - b)) → Patched (get_or (set s o y) (o + 1) 0) 0 (w - (8 - b)) g z
    → bits_of (set (set s o y) (o + 1) z) ≡ splice (bits_of s) (8 * o + b) (low_bits w v)
two-written s v w o b f g y z fit begun over short first patched second patched' =
    let l : length (set s o y) ≡ length s = length-set s o y in
    let all : 8 - b + (w - (8 - b)) ≡ w = omega arith in
    write-more s (set s o y) (8 * o + b) v (8 - b) (w - (8 - b)) (o + 1) 0 g z (omega arith) (omega arith) (omega arith)
    (one_written s v (8 - b) o b f y (omega arith) (omega arith) first patched) second patched'
    ∙ ap (λ (m : ℕ). splice (bits_of s) (8 * o + b) (low_bits m v)) all
