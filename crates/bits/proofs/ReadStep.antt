-- A step of reading: what an octet's part adds to the field that is read so far; and the one such step of a field in two octets. Assumes nothing.
use mathlib.Core.Path.{◌≡◌, sym, ap, ◌∙◌, subst}
use mathlib.Core.List.{List}
use Prim.Native.Nat.{ℕ, ◌+◌, ◌-◌, ◌*◌, ◌/◌, ◌%◌, ◌^◌, ◌≤◌, ◌<◌}
use native.Mathlib.Nat.{lt_of_lt_of_le}
use native.Mathlib.Omega.{arith}
use lib.ListN.{length, get_or}
use lib.Pow.{pow_mono, shl_exact}
use Rattle.bits.specs.Bits.{field}
use Rattle.bits.proofs.Fields.{field-add, field_lt, fragment-field}

-- the bits done are read; the n bits behind them lie in octet o, from its bit b on
module _ (s : List ℕ) (at done n o b acc f : ℕ) (small : done + n ≤ 32) (index : o < length s) (within : b + n ≤ 8) (place : at + done ≡ 8 * o + b) (read : acc ≡ field s at done)
    (part : f ≡ get_or s o 0 / 2 ^ b % 2 ^ n) where
  pub read_more : acc + (f * 2 ^ done) % 2 ^ 32 ≡ field s at (done + n)
  read_more =
      let is : f ≡ field s (at + done) n = part ∙ sym (fragment-field s o b n index within) ∙ ap (λ (k : ℕ). field s k n) (sym place) in
      let lt : f < 2 ^ n = subst (λ (k : ℕ). k < 2 ^ n) (sym is) (field_lt s (at + done) n) in
      let e : (f * 2 ^ done) % 2 ^ 32 ≡ f * 2 ^ done = shl_exact n done 32 lt (omega arith) in
      let e' : f * 2 ^ done ≡ field s (at + done) n * 2 ^ done = ap (λ (k : ℕ). k * 2 ^ done) is in
      let a : field s at (done + n) ≡ field s at done + 2 ^ done * field s (at + done) n = field-add s at done n (omega arith) in
      omega arith

  pub read_fits : acc + (f * 2 ^ done) % 2 ^ 32 < 2 ^ 32
  read_fits =
      subst (λ (k : ℕ). k < 2 ^ 32) (sym read_more) (lt_of_lt_of_le (field_lt s at (done + n)) (pow_mono {i = done + n} {j = 32} small))

-- a field in octet o, from its bit b on, and in the octet behind it
module _ (s : List ℕ) (o b w low high : ℕ) (fit : 8 * o + b + w ≤ 8 * length s) (begun : b < 8) (over : 8 < b + w) (short : b + w ≤ 16)
    (first : low ≡ get_or s o 0 / 2 ^ b % 2 ^ (8 - b)) (second : high ≡ get_or s (o + 1) 0 / 2 ^ 0 % 2 ^ (w - (8 - b))) where
  low_read : low ≡ field s (8 * o + b) (8 - b)
  low_read = first ∙ sym (fragment-field s o b (8 - b) (omega arith) (omega arith))

  pub two-read : low + (high * 2 ^ (8 - b)) % 2 ^ 32 ≡ field s (8 * o + b) w
  two-read =
      let all : 8 - b + (w - (8 - b)) ≡ w = omega arith in
      read_more s (8 * o + b) (8 - b) (w - (8 - b)) (o + 1) 0 low high (omega arith) (omega arith) (omega arith) (omega arith) low_read second
      ∙ ap (field s (8 * o + b)) all

  pub two_fits : low + (high * 2 ^ (8 - b)) % 2 ^ 32 < 2 ^ 32
  two_fits =
      read_fits s (8 * o + b) (8 - b) (w - (8 - b)) (o + 1) 0 low high (omega arith) (omega arith) (omega arith) (omega arith) low_read second
