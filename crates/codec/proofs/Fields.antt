-- A number, a flag and no bits at all have a codec's laws: one proof for every width. Assumes nothing.
use Prim.Native.Nat.{ℕ, ◌+◌, ◌<◌, ◌≤◌, ◌^◌}
use mathlib.Core.Path.{◌≡◌, refl, ap, ap₂, sym, ◌∙◌, subst₂}
use mathlib.Core.Bool.{Bool, true, false, ◌&&◌}
use mathlib.Core.List.{List, [], ◌∷◌, ◌++◌}
use lib.ListN.{length, take, drop, length-append, length-drop, take-append-drop}
use lib.Seq.{drop-drop, length-take-le, take_at}
use lib.Dec.{leb}
use borrow.Author.Tests.{leb-true, le-leb}
use native.Mathlib.Omega.{arith}
use Rattle.bits.specs.Bits.{low_bits, value, weight}
use Rattle.bits.proofs.NumberBits.{length-low_bits, value-low_bits-lt, low_bits-value-at}
use Rattle.codec.specs.Answer.{got, refused, pick}
use Rattle.codec.specs.Codec.{number, read_number, within, flag, first_bit, nothing}
use Rattle.codec.proofs.Lawful.{Accepted, Lawful, behind, never}

-- a check that says nothing passed its test
pub passed : (b : Bool) (fault : ℕ) → 0 < fault → pick b 0 fault ≡ 0 → b ≡ true
passed true fault h e = refl
passed false fault h e = absurd (omega arith)

pub and_left : (a b : Bool) → a && b ≡ true → a ≡ true
and_left true b e = refl
and_left false b e = e

pub and_right : (a b : Bool) → a && b ≡ true → b ≡ true
and_right true b e = e
and_right false b e = absurd (omega (arith, ap weight e))

-- a number, of at least one bit and below the limit of its width
module _ (w lo hi fault : ℕ) (hw : 0 < w) (h : hi < 2 ^ w) (hf : 0 < fault) where
  number-written : (bs rest : List Bool) (p n : ℕ) → pick (within lo hi n) 0 fault ≡ 0 → drop p bs ≡ low_bits w n ++ rest → read_number w lo hi fault bs p ≡ got n (p + length (low_bits w n))
  unfolding read_number
  number-written bs rest p n l e =
      let t = passed (within lo hi n) fault hf l in
      let s : n < 2 ^ w = omega (arith, leb-true n hi (and_right (leb lo n) (leb n hi) t)) in
      let len : length (low_bits w n) ≡ w = length-low_bits w n in
      let k : take w (drop p bs) ≡ low_bits w n = rw e (take_at (low_bits w n) rest w len) in
      let room : p + w ≤ length bs = omega (arith, simp (length-drop, length-append) at (ap length e)) in
      rw (le-leb (p + w) (length bs) room, k, value-low_bits-lt w n s, t, len)

  number-accepted : (bs : List Bool) (p q x v : ℕ) (a b : Bool) → value (take w (drop p bs)) ≡ v → leb (p + w) (length bs) ≡ a → within lo hi v ≡ b → pick a (pick b (got v (p + w)) (refused fault p)) (refused 1 p) ≡ got x q → Accepted (number w lo hi fault) bs p q x
  unfolding number
  number-accepted bs p q x v false b ev ea eb e = absurd (never e)
  number-accepted bs p q x v true false ev ea eb e = absurd (never e)
  number-accepted bs p q x v true true ev ea eb e =
      let ex : v ≡ x = cc in
      let eq : p + w ≡ q = cc in
      let room : p + w ≤ length bs = leb-true (p + w) (length bs) ea in
      let f : length (take w (drop p bs)) ≡ w = length-take-le w (drop p bs) (rw length-drop (omega arith)) in
      let g : low_bits w v ≡ take w (drop p bs) = rw (← ev) (low_bits-value-at w (take w (drop p bs)) f) in
      let s : Accepted (number w lo hi fault) bs p (p + w) v =
      record {
        legal = rw eb;
        clean = refl;
        same = sym (rw (g, ← (drop-drop w p bs)) (take-append-drop w (drop p bs)));
        ends = rw (length-low_bits w v);
      }
      in subst₂ (λ z u. Accepted (number w lo hi fault) bs p u z) ex eq s

  pub number-lawful : Lawful (number w lo hi fault)
  unfolding read_number number
  number-lawful =
      record {
        written = number-written;
        accepted = λ bs p q x e. number-accepted bs p q x _ _ _ refl refl refl e;
        judged = λ n. refl;
        sized = length-low_bits w;
      }

  -- a number that was read is no larger than the largest that is legal
  pub number-most : (bs : List Bool) (p q x : ℕ) → (number w lo hi fault).read bs p ≡ got x q → x ≤ hi
  unfolding number
  number-most bs p q x e = leb-true x hi (and_right (leb lo x) (leb x hi) (passed (within lo hi x) fault hf (number-lawful.accepted bs p q x e).legal))

flag-accepted : (l bs : List Bool) (p q : ℕ) (b : Bool) → drop p bs ≡ l → first_bit l p ≡ got b q → Accepted flag bs p q b
unfolding flag
flag-accepted [] bs p q b el e = absurd (never e)
flag-accepted (a ∷ l) bs p q b el e =
    let ey : a ≡ b = cc in
    let eq : p + 1 ≡ q = cc in
    record { legal = refl; clean = refl; same = el ∙ ap₂ (λ (z : Bool) (s : List Bool). z ∷ s) ey (sym (behind bs (a ∷ []) l p el) ∙ ap (λ (n : ℕ). drop n bs) eq); ends = sym eq }

pub flag-lawful : Lawful flag
unfolding flag
flag-lawful =
    record {
      written = λ bs rest p b l e. rw e;
      accepted = λ bs p q b e. flag-accepted (drop p bs) bs p q b refl e;
      judged = λ b. refl;
      sized = λ b. refl;
    }

pub nothing_lawful : {A : Type 0} (x : A) → Lawful (nothing x)
unfolding nothing
nothing_lawful x =
    record {
      written = λ bs rest p y l e. ap (got x) (omega arith);
      accepted = λ bs p q y e.
          let ey : x ≡ y = cc in
          let eq : p ≡ q = cc in
          record { legal = refl; clean = ey; same = rw eq; ends = omega arith };
      judged = λ y. refl;
      sized = λ y. refl;
    }
