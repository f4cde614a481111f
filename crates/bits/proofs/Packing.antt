-- Bits packed into octets, and octets written over the beginning of others. Assumes nothing.
use Prim.Native.Nat.{ℕ, zero, suc, ◌+◌, ◌*◌, ◌^◌, ◌<◌}
use mathlib.Core.Path.{◌≡◌, refl, ap, ap₂, sym, ◌∙◌, subst}
use mathlib.Core.Bool.{Bool}
use mathlib.Core.List.{List, [], ◌∷◌, ◌++◌}
use native.Mathlib.Omega.{arith}
use lib.ListN.{length, take, drop, length-drop, take-append-drop, drop_of_length-le}
use lib.Seq.{drop-drop, drop_at, length-take-le}
use Rattle.bits.specs.Bits.{low_bits, value, bits_of, splice, octets, AllOctets}
use Rattle.bits.proofs.NumberBits.{length-low_bits, low_bits-value-at, value-lt}
use Rattle.bits.proofs.OctetBits.{bits_of-append, bits_of-same}

pub length-octets : (n : ℕ) (bs : List Bool) → length (octets n bs) ≡ n
unfolding octets
length-octets zero bs = refl
length-octets (suc n) bs = ap suc (length-octets n (drop 8 bs))

pub bits-octets : (n : ℕ) (bs : List Bool) → length bs ≡ 8 * n → bits_of (octets n bs) ≡ bs
unfolding bits_of octets
bits-octets zero [] h = refl
bits-octets zero (b ∷ bs) h = absurd (omega arith)
bits-octets (suc n) bs h =
    let l : length (take 8 bs) ≡ 8 = length-take-le 8 bs (omega arith) in
    ap₂ ◌++◌ (low_bits-value-at 8 (take 8 bs) l) (bits-octets n (drop 8 bs) (length-drop 8 bs ∙ omega arith)) ∙ take-append-drop 8 bs

pub all-octets : (n : ℕ) (bs : List Bool) → length bs ≡ 8 * n → AllOctets (octets n bs)
unfolding octets
all-octets zero bs h = tt
all-octets (suc n) bs h =
    let l : length (take 8 bs) ≡ 8 = length-take-le 8 bs (omega arith) in
    (subst (λ (k : ℕ). value (take 8 bs) < 2 ^ k) l (value-lt (take 8 bs)), all-octets n (drop 8 bs) (length-drop 8 bs ∙ omega arith))

all_drop : (n : ℕ) (s : List ℕ) → AllOctets s → AllOctets (drop n s)
all_drop zero s a = a
all_drop (suc n) [] a = tt
all_drop (suc n) (x ∷ s) a = all_drop n s a.1

all_append : (s t : List ℕ) → AllOctets s → AllOctets t → AllOctets (s ++ t)
all_append [] t a b = b
all_append (x ∷ s) t a b = (a.0, all_append s t a.1 b)

pub bits_of-drop : (n : ℕ) (s : List ℕ) → bits_of (drop n s) ≡ drop (8 * n) (bits_of s)
unfolding bits_of
bits_of-drop zero s = refl
bits_of-drop (suc n) [] = sym (drop_of_length-le {A = Bool} [] {i = 8 * suc n} (omega arith))
bits_of-drop (suc n) (x ∷ s) =
    let e : 8 * suc n ≡ 8 + 8 * n = omega arith in
    bits_of-drop n s
    ∙ ap (drop (8 * n)) (sym (drop_at (low_bits 8 x) (bits_of s) 8 (length-low_bits 8 x)))
    ∙ drop-drop (8 * n) 8 (low_bits 8 x ++ bits_of s)
    ∙ ap (λ (k : ℕ). drop k (low_bits 8 x ++ bits_of s)) (sym e)

-- where the bits of octets are spliced in from the first on, the octets stand there, and the rest is as it was
pub packed : (s t : List ℕ) (n : ℕ) (bs : List Bool) → AllOctets s → AllOctets t → length bs ≡ 8 * n → bits_of t ≡ splice (bits_of s) 0 bs → t ≡ octets n bs ++ drop n s
unfolding splice
packed s t n bs a b l e =
    let k : 0 + length bs ≡ 8 * n = omega arith in
    bits_of-same t (octets n bs ++ drop n s) b (all_append (octets n bs) (drop n s) (all-octets n bs l) (all_drop n s a))
    (e ∙ ap₂ ◌++◌ (sym (bits-octets n bs l)) (ap (λ (m : ℕ). drop m (bits_of s)) k ∙ sym (bits_of-drop n s)) ∙ sym (bits_of-append (octets n bs) (drop n s)))
