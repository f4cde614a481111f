-- Two values are the same exactly when they become equal once their unused cells are 0: one law for each way of making a codec. Assumes nothing.
use Prim.Native.Nat.{ℕ, min, zero, suc, ◌-◌}
use mathlib.Core.Path.{◌≡◌, refl, ap, sym, ◌∙◌}
use mathlib.Core.Bool.{Bool, true, false}
use mathlib.Core.List.{List, [], ◌∷◌, ◌++◌, map, Forall₂}
use lib.ListN.{length, take, replicate, length-append, length-take}
use lib.Seq.{take-append_seam, take_at}
use native.Mathlib.Omega.{arith}
use Rattle.codec.specs.Codec.{Codec, number, flag, nothing, ◌then_by◌, ◌&◌, present, optional, viewed, shaped, tested, unless, ◌closed_by◌}
use Rattle.codec.specs.Characters.{characters}
use Rattle.codec.specs.Lists.{listed, cells}
use Rattle.codec.specs.Same.{◌and◌, same_optional, same_array}
use Rattle.codec.proofs.ListLaws.{length-replicate}

-- S says of two values that they become equal once their unused cells are 0
pub record Agrees {A : Type 0} (c : Codec A) (S : A → A → Type 0) : Type 0 where
  pub told : (x y : A) → c.norm x ≡ c.norm y → S x y
  pub made : (x y : A) → S x y → c.norm x ≡ c.norm y

-- where no cell is ever unused, the same is equal
pub exact-agrees : {A : Type 0} {c : Codec A} → ((x : A) → c.norm x ≡ x) → Agrees c ◌≡◌
exact-agrees n = record { told = λ x y e. sym (n x) ∙ e ∙ n y; made = λ x y e. n x ∙ e ∙ sym (n y) }

pub number-agrees : (w lo hi fault : ℕ) → Agrees (number w lo hi fault) ◌≡◌
unfolding number
number-agrees w lo hi fault = exact-agrees (λ n. refl)

pub characters-agrees : (n : ℕ) → Agrees (characters n) ◌≡◌
unfolding characters
characters-agrees n = exact-agrees (λ cs. refl)

-- d may look at x, but sets the unused cells to 0 in one way whatever x is
pub then_by-agrees : {A B : Type 0} {c : Codec A} {d : A → Codec B} {S : A → A → Type 0} {T : B → B → Type 0} → Agrees c S → ((x : A) → Agrees (d x) T) → ((x z : A) (y : B) → (d x).norm y ≡ (d z).norm y) → Agrees (c then_by d) (λ p q. S p.0 q.0 and T p.1 q.1)
unfolding ◌then_by◌
then_by-agrees first then n =
    record {
      told = λ p q e. (first.told p.0 q.0 (ap (λ r. r.0) e), (then p.0).told p.1 q.1 (ap (λ r. r.1) e ∙ n q.0 p.0 q.1));
      made = λ p q s. λ i. (first.made p.0 q.0 s.0 i, ((then p.0).made p.1 q.1 s.1 ∙ n p.0 q.0 q.1) i);
    }

pub and-agrees : {A B : Type 0} {c : Codec A} {d : Codec B} {S : A → A → Type 0} {T : B → B → Type 0} → Agrees c S → Agrees d T → Agrees (c & d) (λ p q. S p.0 q.0 and T p.1 q.1)
and-agrees first then = then_by-agrees first (λ x. then) (λ x z y. refl)

-- a presence bit, of whatever kind, and what is present
module _ {A : Type 0} (x : A) (bit : Codec Bool) (bn : (b : Bool) → bit.norm b ≡ b) {c : Codec A} {S : A → A → Type 0} (inner : Agrees c S) where
  contents-made : (a b : Bool) (y z : A) → a ≡ b → (a ≡ true → S y z) → (present x c a).norm y ≡ (present x c b).norm z
  unfolding present nothing
  contents-made true b y z f s = rw (← f) (inner.made y z (s refl))
  contents-made false b y z f s = rw (← f)

  pub present-agrees : Agrees (bit then_by present x c) (same_optional S)
  unfolding ◌then_by◌ present
  present-agrees =
      record {
        told = λ p q e.
            let f : p.0 ≡ q.0 = sym (bn p.0) ∙ ap (λ r. r.0) e ∙ bn q.0 in (
              f,
              λ t.
                  let k : (present x c p.0).norm p.1 ≡ (present x c q.0).norm q.1 = ap (λ r. r.1) e in
                  inner.told p.1 q.1 (rw (← f, t) at k),
            );
        made = λ p q s. λ i. ((bn p.0 ∙ s.0 ∙ sym (bn q.0)) i, contents-made p.0 q.0 p.1 q.1 s.0 s.1 i);
      }

pub optional-agrees : {A : Type 0} (x : A) {c : Codec A} {S : A → A → Type 0} → Agrees c S → Agrees (optional x c) (same_optional S)
unfolding flag
optional-agrees x inner = present-agrees x flag (λ b. refl) inner

pub shaped-agrees : {A B : Type 0} (to : A → B) (from : B → A) {c : Codec A} {S : A → A → Type 0} → Agrees c S → ((x : A) → from (to x) ≡ x) → Agrees (shaped to from c) (λ x y. S (from x) (from y))
unfolding viewed
shaped-agrees to from {c} inner back =
    record {
      told = λ x y e. inner.told (from x) (from y) (sym (back (c.norm (from x))) ∙ ap from e ∙ back (c.norm (from y)));
      made = λ x y s. ap to (inner.made (from x) (from y) s);
    }

pub tested-agrees : {A : Type 0} (test : A → Bool) (fault : ℕ) {c : Codec A} {S : A → A → Type 0} → Agrees c S → Agrees (tested test fault c) S
unfolding tested
tested-agrees test fault inner = record { told = inner.told; made = inner.made }

pub unless-agrees : {A : Type 0} (lacking : Bool) (x : A) (there : A → Bool) (fault : ℕ) {c : Codec A} {S : A → A → Type 0} → Agrees c S → Agrees (unless lacking x there fault c) S
unfolding unless
unless-agrees lacking x there fault inner = record { told = inner.told; made = inner.made }

pub closed_by-agrees : {A : Type 0} {c : Codec A} {S : A → A → Type 0} (fault : ℕ) → Agrees c S → Agrees (c closed_by fault) S
unfolding ◌closed_by◌ viewed
closed_by-agrees fault inner = record { told = inner.told; made = inner.made }

-- lists: entry by entry
module _ {A : Type 0} (x : A) {c : Codec A} {S : A → A → Type 0} (inner : Agrees c S) where
  entries-told : (xs ys : List A) → map c.norm xs ≡ map c.norm ys → Forall₂ S xs ys
  entries-told [] [] e = Forall₂.nil
  entries-told [] (y ∷ ys) e = let z : ◌≡◌ {A = ℕ} 0 1 = cc in absurd (omega arith)
  entries-told (x ∷ xs) [] e = let z : ◌≡◌ {A = ℕ} 0 1 = cc in absurd (omega arith)
  entries-told (x ∷ xs) (y ∷ ys) e = Forall₂.cons (inner.told x y (cc)) (entries-told xs ys (cc))

  entries-made : {xs ys : List A} → Forall₂ S xs ys → map c.norm xs ≡ map c.norm ys
  entries-made Forall₂.nil = refl
  entries-made (Forall₂.cons {a = x} {b = y} s r) = λ i. inner.made x y s i ∷ entries-made r i

  pub listed-agrees : (n : ℕ) → Agrees (listed x c n) (Forall₂ S)
  unfolding listed viewed
  listed-agrees zero = record { told = entries-told; made = λ xs ys. entries-made }
  listed-agrees (suc n) = record { told = entries-told; made = λ xs ys. entries-made }

-- an array, of a list whose normal form keeps its length
module _ {A : Type 0} (a : A) (room most fault : ℕ) {c : Codec (List A)} {S : List A → List A → Type 0} (inner : Agrees c S) (keeps : (xs : List A) → length (c.norm xs) ≡ length xs) where
  used-length : (l : List A) (k : ℕ) → length (c.norm (take k l)) ≡ min k (length l)
  used-length l k = keeps (take k l) ∙ length-take k l

  clean-length : (l : List A) (k : ℕ) → length (c.norm (take k l) ++ replicate (length l - k) a) ≡ length l
  clean-length l k = length-append (c.norm (take k l)) (replicate (length l - k) a) ∙ rw (used-length, length-replicate) (omega arith)

  pub cells-agrees : Agrees (cells a room most fault c) (same_array S)
  unfolding cells viewed
  cells-agrees =
      record {
        told = λ x y e.
            let n : x.1 ≡ y.1 = ap (λ r. r.1) e in
            let k : c.norm (take x.1 x.0) ++ replicate (length x.0 - x.1) a ≡ c.norm (take y.1 y.0) ++ replicate (length y.0 - y.1) a = ap (λ r. r.0) e in
            let l : length x.0 ≡ length y.0 = sym (clean-length x.0 x.1) ∙ ap length k ∙ clean-length y.0 y.1 in
            let u : length (c.norm (take y.1 y.0)) ≡ length (c.norm (take x.1 x.0)) = rw (used-length x.0 x.1, used-length y.0 y.1, l, n) in
            let v = ap (take (length (c.norm (take x.1 x.0)))) k in
            (l, (n, inner.told _ _ (sym (take-append_seam _ _) ∙ v ∙ take_at _ _ _ u)));
        made = λ x y s. λ i. (inner.made (take x.1 x.0) (take y.1 y.0) s.1.1 i ++ replicate (s.0 i - s.1.0 i) a, s.1.0 i);
      }
