-- The bits of octets: their length, those of joined octets, those around one octet; and octets with the same bits are the same octets. Assumes nothing.
use mathlib.Core.Path.{◌≡◌, refl, sym, ap, ap₂, ◌∙◌}
use mathlib.Core.Bool.{Bool}
use mathlib.Core.List.{List, [], ◌∷◌, ◌++◌, append_assoc}
use Prim.Native.Nat.{ℕ, suc, ◌+◌, ◌-◌, ◌*◌, ◌/◌, ◌^◌, ◌≤◌, ◌<◌}
use native.Mathlib.Omega.{arith}
use lib.ListN.{length, take, drop, get_or, set, length-append}
use lib.Seq.{take_at, drop_at, split_at, set_split, length-take-le}
use lib.Pow.{shr-shr}
use Rattle.bits.specs.Bits.{low_bits, bits_of, AllOctets}
use Rattle.bits.proofs.NumberBits.{length-low_bits, low_bits-add, low_bits-same}

-- octets, by their bounds
pub octets-of : (s : List ℕ) → ((i : ℕ) → i < length s → get_or s i 0 < 256) → AllOctets s
octets-of [] h = tt
octets-of (x ∷ s) h = (h 0 (omega arith), octets-of s (λ i k. h (suc i) (omega arith)))

pub length-bits_of : (s : List ℕ) → length (bits_of s) ≡ 8 * length s
unfolding bits_of
length-bits_of [] = refl
length-bits_of (x ∷ xs) =
    let ih : length (bits_of xs) ≡ 8 * length xs = length-bits_of xs in
    let l : length (low_bits 8 x) ≡ 8 = length-low_bits 8 x in
    simp length-append (omega arith)

pub bits_of-append : (a b : List ℕ) → bits_of (a ++ b) ≡ bits_of a ++ bits_of b
unfolding bits_of
bits_of-append [] b = refl
bits_of-append (x ∷ a) b = ap (λ (l : List Bool). low_bits 8 x ++ l) (bits_of-append a b) ∙ sym (append_assoc (low_bits 8 x) (bits_of a) (bits_of b))

-- two equal appends whose first parts are equally long have equal parts
append-same : (a b c d : List Bool) → length a ≡ length b → a ++ c ≡ b ++ d → (a ≡ b) × (c ≡ d)
append-same a b c d l e = (
  sym (take_at a c (length b) l) ∙ ap (take (length b)) e ∙ take_at b d (length b) refl,
  sym (drop_at a c (length b) l) ∙ ap (drop (length b)) e ∙ drop_at b d (length b) refl,
)

-- octets with the same bits are the same
pub bits_of-same : (s t : List ℕ) → AllOctets s → AllOctets t → bits_of s ≡ bits_of t → s ≡ t
unfolding bits_of
bits_of-same [] [] hs ht e = refl
bits_of-same [] (y ∷ t) hs ht e =
    let l : length (low_bits 8 y) ≡ 8 = length-low_bits 8 y in
    absurd (omega (arith, simp length-append at (ap length e)))
bits_of-same (x ∷ s) [] hs ht e =
    let l : length (low_bits 8 x) ≡ 8 = length-low_bits 8 x in
    absurd (omega (arith, simp length-append at (ap length e)))
bits_of-same (x ∷ s) (y ∷ t) hs ht e =
    let p = append-same (low_bits 8 x) (low_bits 8 y) (bits_of s) (bits_of t) (length-low_bits 8 x ∙ sym (length-low_bits 8 y)) e in
    ap₂ (λ (z : ℕ) (zs : List ℕ). z ∷ zs) (low_bits-same 8 x y hs.0 ht.0 p.0) (bits_of-same s t hs.1 ht.1 p.1)

-- the bits of octets, around those of octet o
bits_of-split : (s : List ℕ) (o : ℕ) → o < length s → bits_of s ≡ bits_of (take o s) ++ (low_bits 8 (get_or s o 0) ++ bits_of (drop (suc o) s))
unfolding bits_of
bits_of-split s o h = ap bits_of (split_at s o 0 h) ∙ bits_of-append (take o s) (get_or s o 0 ∷ drop (suc o) s)

bits_of-set : (s : List ℕ) (o x : ℕ) → o < length s → bits_of (set s o x) ≡ bits_of (take o s) ++ (low_bits 8 x ++ bits_of (drop (suc o) s))
unfolding bits_of
bits_of-set s o x h = ap bits_of (set_split s o x h) ∙ bits_of-append (take o s) (x ∷ drop (suc o) s)

-- an octet's bits, around the n from bit b on
octet-split : (x b n : ℕ) → b + n ≤ 8 → low_bits 8 x ≡ low_bits b x ++ (low_bits n (x / 2 ^ b) ++ low_bits (8 - (b + n)) (x / 2 ^ (b + n)))
octet-split x b n h =
    let e : 8 ≡ b + (n + (8 - (b + n))) = omega arith in
    ap (λ (k : ℕ). low_bits k x) e ∙ low_bits-add b (n + (8 - (b + n))) x
    ∙ ap (λ (l : List Bool). low_bits b x ++ l) (low_bits-add n (8 - (b + n)) (x / 2 ^ b))
    ∙ ap (λ (k : ℕ). low_bits b x ++ (low_bits n (x / 2 ^ b) ++ low_bits (8 - (b + n)) k)) (shr-shr x b n)

-- the bits before bit b of octet o, and those from its bit e on
abbrev pub bits_before : List ℕ → ℕ → ℕ → List Bool
bits_before s o b = bits_of (take o s) ++ low_bits b (get_or s o 0)

abbrev pub bits_from : List ℕ → ℕ → ℕ → List Bool
bits_from s o e = low_bits (8 - e) (get_or s o 0 / 2 ^ e) ++ bits_of (drop (suc o) s)

pub length_before : (s : List ℕ) (o b : ℕ) → o < length s → length (bits_before s o b) ≡ 8 * o + b
length_before s o b h =
    let l : length (take o s) ≡ o = length-take-le o s (omega arith) in
    length-append (bits_of (take o s)) (low_bits b (get_or s o 0)) ∙ ap₂ ◌+◌ (length-bits_of (take o s) ∙ ap (λ (k : ℕ). 8 * k) l) (length-low_bits b (get_or s o 0))

-- the bits of octets, cut around the n from bit b of octet o on; and with that octet replaced by one that differs in those bits alone
module _ (s : List ℕ) (o b n : ℕ) (h : o < length s) (k : b + n ≤ 8) where
  pub bits-cut : bits_of s ≡ bits_before s o b ++ (low_bits n (get_or s o 0 / 2 ^ b) ++ bits_from s o (b + n))
  bits-cut =
      bits_of-split s o h
      ∙ ap (λ (l : List Bool). bits_of (take o s) ++ (l ++ bits_of (drop (suc o) s))) (octet-split (get_or s o 0) b n k)
      ∙ simp append_assoc

  pub bits-patched : (y f : ℕ) → low_bits 8 y ≡ low_bits b (get_or s o 0) ++ (low_bits n f ++ low_bits (8 - (b + n)) (get_or s o 0 / 2 ^ (b + n)))
      → bits_of (set s o y) ≡ bits_before s o b ++ (low_bits n f ++ bits_from s o (b + n))
  bits-patched y f d =
      bits_of-set s o y h
      ∙ ap (λ (l : List Bool). bits_of (take o s) ++ (l ++ bits_of (drop (suc o) s))) d
      ∙ simp append_assoc

-- the n bits from bit b of octet o on
pub fragment-bits : (s : List ℕ) (o b n : ℕ) → o < length s → b + n ≤ 8 → take n (drop (8 * o + b) (bits_of s)) ≡ low_bits n (get_or s o 0 / 2 ^ b)
fragment-bits s o b n h k =
    let B : List Bool = low_bits n (get_or s o 0 / 2 ^ b) in
    ap (λ (l : List Bool). take n (drop (8 * o + b) l)) (bits-cut s o b n h k)
    ∙ ap (take n) (drop_at (bits_before s o b) (B ++ bits_from s o (b + n)) (8 * o + b) (length_before s o b h))
    ∙ take_at B (bits_from s o (b + n)) n (length-low_bits n (get_or s o 0 / 2 ^ b))
