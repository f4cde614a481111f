-- What the octets of a slice tell of a flag at a place, what writing it leaves behind, and a recurrence bit by the room behind it. Assumes nothing.
use Prim.Native.Nat.{ℕ, zero, suc, ◌+◌, ◌*◌, ◌<◌, ◌≤◌}
use mathlib.Core.Path.{◌≡◌, refl, ap, sym, ◌∙◌}
use lib.Dec.{eqb}
use mathlib.Core.Bool.{Bool, true, false, not, beq}
use mathlib.Core.List.{List, [], ◌∷◌}
use lib.ListN.{length, take, drop, drop_of_length-le}
use lib.Seq.{drop-cons}
use native.Mathlib.Omega.{arith}
use Rattle.bits.specs.Bits.{low_bits, bits_of, value, weight, field, splice}
use Rattle.bits.proofs.OctetBits.{length-bits_of}
use Rattle.bits.proofs.Fields.{field_lt}
use Rattle.codec.specs.Answer.{got, refused, next, pick}
use Rattle.codec.specs.Codec.{must, same, tested, flag, first_bit}
use Rattle.codec.specs.Lists.{recurs}
use Rattle.codec.specs.Writes.{Writes}

-- a bit by the number that it is read as
is_one : (v : ℕ) → v < 2 → v ≡ weight (eqb v 1)
is_one zero h = refl
is_one (suc zero) h = refl
is_one (suc (suc v)) h = absurd (omega arith)

-- a flag's reading
module _ (s : List ℕ) (k : ℕ) where
  one_bit : (b : Bool) (l : List Bool) → value (take 1 (b ∷ l)) ≡ weight b
  unfolding value
  one_bit true l = refl
  one_bit false l = refl

  first_of : (l : List Bool) → 0 < length l → (b : Bool) → value (take 1 l) ≡ weight b → got b (k + 1) ≡ first_bit l k
  first_of [] h b e = absurd (omega arith)
  first_of (true ∷ l) h true e = refl
  first_of (false ∷ l) h false e = refl
  first_of (true ∷ l) h false e = absurd (omega (arith, one_bit true l))
  first_of (false ∷ l) h true e = absurd (omega (arith, one_bit false l))

  pub flag-got : (b : Bool) → k < 8 * length s → field s k 1 ≡ weight b → got b (k + 1) ≡ flag.read (bits_of s) k
  unfolding flag field
  flag-got b h e = first_of (drop k (bits_of s)) (rw (drop-cons (bits_of s) k false (rw length-bits_of h)) (omega arith)) b e

  -- the bit as the code reads it
  pub flag-read : (v : ℕ) → k < 8 * length s → v ≡ field s k 1 → got (eqb v 1) (k + 1) ≡ flag.read (bits_of s) k
  flag-read v h e = let l : v < 2 = omega (arith, field_lt s k 1) in flag-got (eqb v 1) h (sym e ∙ is_one v l)

  pub flag-short : 8 * length s ≤ k → refused 1 k ≡ flag.read (bits_of s) k
  unfolding flag
  flag-short h = rw (drop_of_length-le (bits_of s) {i = k} (rw length-bits_of h))

-- what was written
flag-bits : (b : Bool) → low_bits 1 (weight b) ≡ b ∷ []
unfolding low_bits
flag-bits true = refl
flag-bits false = refl

pub flag-writes : (b : Bool) (s t : List ℕ) (p : ℕ) → bits_of t ≡ splice (bits_of s) p (low_bits 1 (weight b)) → Writes flag b s t p (p + 1)
unfolding flag
flag-writes b s t p e = record { bits = e ∙ ap (splice (bits_of s) p) (flag-bits b); ends = refl; next = refl }

-- a recurrence bit, by the entries that there is room for
pub recurs-none : (n : ℕ) → n ≡ 0 → recurs n ≡ must false 5
unfolding recurs
recurs-none zero e = refl
recurs-none (suc n) e = absurd (omega arith)

pub recurs-some : (n : ℕ) → (n ≡ 0 → ⊥) → recurs n ≡ flag
unfolding recurs
recurs-some zero e = absurd (e refl)
recurs-some (suc n) e = refl

-- what the comparison of two bits tells
pub same-not : (x b : Bool) → not (beq x b) ≡ true → same x b ≡ false
same-not true true e = sym e
same-not true false e = refl
same-not false true e = refl
same-not false false e = sym e

pub same-so : (x b : Bool) → not (beq x b) ≡ false → same x b ≡ true
same-so true true e = refl
same-so true false e = sym e
same-so false true e = sym e
same-so false false e = refl

-- a bit that has to be b is b
pub must-value : (b : Bool) (f : ℕ) (bs : List Bool) (p : ℕ) (x : Bool) (q : ℕ) → got x q ≡ (must b f).read bs p → x ≡ b
unfolding tested next flag
must-value b f bs p x q e = go b (drop p bs) e
  where
    go : (c : Bool) (l : List Bool) → got x q ≡ next (first_bit l p) (λ y r. pick (same y c) (got y r) (refused f p)) → x ≡ c
    go c [] e = cc
    go true (true ∷ l) e = cc
    go true (false ∷ l) e = cc
    go false (true ∷ l) e = cc
    go false (false ∷ l) e = cc
