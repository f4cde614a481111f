-- A number and its bits: each is got back from the other, for every width. Assumes nothing.
use mathlib.Core.Path.{◌≡◌, refl, sym, ap, ap₂, ◌∙◌}
use mathlib.Core.Bool.{Bool, true, false}
use mathlib.Core.List.{List, [], ◌∷◌, ◌++◌}
use Prim.Native.Nat.{ℕ, zero, suc, ◌+◌, ◌*◌, ◌/◌, ◌%◌, ◌^◌, ◌<◌}
use native.Mathlib.Nat.{mod-one, div-one, mod-eq_of_lt, pow-succ', suc-add, zero-add}
use native.Mathlib.Numerals.{add-one, one-add}
use native.Mathlib.Omega.{arith}
use lib.ListN.{length}
use lib.Pow.{mod-pow-add, shr-shr}
use lib.Dec.{eqb}
use borrow.Author.Tests.{eqb-true, eqb-false, eq-eqb, ne_eqb}
use Rattle.bits.specs.Bits.{weight, low_bits, value}

pub length-low_bits : (w v : ℕ) → length (low_bits w v) ≡ w
unfolding low_bits
length-low_bits zero v = refl
length-low_bits (suc w) v = ap suc (length-low_bits w (v / 2))

odd-weight : (b : Bool) (n : ℕ) → eqb (n % 2) 1 ≡ b → weight b ≡ n % 2
odd-weight true n e = omega (arith, eqb-true (n % 2) 1 e)
odd-weight false n e = omega (arith, eqb-false (n % 2) 1 e)

odd-of : (b : Bool) (v : ℕ) → eqb ((weight b + 2 * v) % 2) 1 ≡ b
odd-of true v = eq-eqb ((1 + 2 * v) % 2) 1 (omega arith)
odd-of false v = ne_eqb ((0 + 2 * v) % 2) 1 (omega arith)

half_of : (b : Bool) (v : ℕ) → (weight b + 2 * v) / 2 ≡ v
half_of true v = omega arith
half_of false v = omega arith

-- the number of the w low bits of v is v's remainder
pub value-low_bits : (w v : ℕ) → value (low_bits w v) ≡ v % 2 ^ w
unfolding low_bits value
value-low_bits zero v = sym (mod-one v)
value-low_bits (suc w) v =
    let ih : value (low_bits w (v / 2)) ≡ v / 2 % 2 ^ w = value-low_bits w (v / 2) in
    let e : v % 2 ^ (w + 1) ≡ (v / 2 % 2 ^ w) * 2 + v % 2 = mod-pow-add v w 1 in
    let e' : v % 2 ^ (suc w) ≡ v % 2 ^ (w + 1) = ap (λ (n : ℕ). v % 2 ^ n) (sym (add-one w)) in
    omega (arith, odd-weight (eqb (v % 2) 1) v refl)

pub value-low_bits-lt : (w v : ℕ) → v < 2 ^ w → value (low_bits w v) ≡ v
value-low_bits-lt w v h = value-low_bits w v ∙ mod-eq_of_lt h

-- bits are the low bits of their number
pub low_bits-value : (bs : List Bool) → low_bits (length bs) (value bs) ≡ bs
unfolding low_bits value
low_bits-value [] = refl
low_bits-value (b ∷ bs) =
    ap₂ (λ (x : Bool) (xs : List Bool). x ∷ xs) (odd-of b (value bs)) (ap (low_bits (length bs)) (half_of b (value bs)) ∙ low_bits-value bs)

pub low_bits-value-at : (w : ℕ) (bs : List Bool) → length bs ≡ w → low_bits w (value bs) ≡ bs
low_bits-value-at w bs e = ap (λ (n : ℕ). low_bits n (value bs)) (sym e) ∙ low_bits-value bs

pub value-append : (a b : List Bool) → value (a ++ b) ≡ value a + 2 ^ length a * value b
unfolding value
value-append [] b = omega arith
value-append (x ∷ a) b =
    let ih : value (a ++ b) ≡ value a + 2 ^ length a * value b = value-append a b in
    let e : 2 ^ suc (length a) * value b ≡ 2 * 2 ^ length a * value b = ap (λ (p : ℕ). p * value b) (pow-succ' 2 (length a)) in
    omega arith

weight-lt : (b : Bool) → weight b < 2
weight-lt true = omega arith
weight-lt false = omega arith

pub value-lt : (bs : List Bool) → value bs < 2 ^ length bs
unfolding value
value-lt [] = omega arith
value-lt (b ∷ bs) =
    let hb : weight b < 2 = weight-lt b in
    let ih : value bs < 2 ^ length bs = value-lt bs in
    let e : 2 ^ suc (length bs) ≡ 2 * 2 ^ length bs = pow-succ' 2 (length bs) in
    omega arith

-- the low bits of a sum of widths
pub low_bits-add : (j k v : ℕ) → low_bits (j + k) v ≡ low_bits j v ++ low_bits k (v / 2 ^ j)
unfolding low_bits
low_bits-add zero k v = ap₂ low_bits (zero-add k) (sym (div-one v))
low_bits-add (suc j) k v =
    ap (λ (n : ℕ). low_bits n v) (suc-add j k)
    ∙ ap (λ (l : List Bool). eqb (v % 2) 1 ∷ l)
    (low_bits-add j k (v / 2)
    ∙ ap (λ (n : ℕ). low_bits j (v / 2) ++ low_bits k n) (shr-shr v 1 j ∙ ap (λ (n : ℕ). v / 2 ^ n) (one-add j)))

-- the low bits of a remainder
pub low_bits-mod : (w v : ℕ) → low_bits w (v % 2 ^ w) ≡ low_bits w v
low_bits-mod w v =
    ap (low_bits w) (sym (value-low_bits w v)) ∙ low_bits-value-at w (low_bits w v) (length-low_bits w v)

-- numbers below 2 ^ w with the same low bits are equal
pub low_bits-same : (w x y : ℕ) → x < 2 ^ w → y < 2 ^ w → low_bits w x ≡ low_bits w y → x ≡ y
low_bits-same w x y hx hy e = sym (value-low_bits-lt w x hx) ∙ ap value e ∙ value-low_bits-lt w y hy
