-- The check of a list in an array: its count, then its entries one after the other, for any entry. Assumes nothing.
use Prim.Native.Nat.{ℕ, zero, suc, ◌+◌, ◌<◌, ◌≤◌}
use mathlib.Core.Path.{◌≡◌, refl, ap, sym, ◌∙◌}
use mathlib.Core.Bool.{Bool, true, false, ◌&&◌}
use mathlib.Core.List.{List, [], ◌∷◌}
use lib.ListN.{length, take, drop, get_or, length-take, drop_of_length-le}
use lib.Seq.{drop-cons, get_or-take}
use lib.Dec.{eqb}
use borrow.Author.Tests.{eq-eqb, le-leb, lt-leb}
use native.Mathlib.Numerals.{add-one}
use native.Mathlib.Omega.{arith}
use Rattle.codec.specs.Answer.{pick}
use Rattle.codec.specs.Codec.{Codec, first, flag, nothing, present, tested, viewed, ◌then_by◌}
use Rattle.codec.specs.Lists.{recurs, listed, cells}
use Rattle.codec.specs.Refusals.{check_no}
use Rattle.codec.specs.declared.Fault.{Fault}
use Rattle.codec.proofs.Told.{fine-first, bad-first}
use Rattle.std.specs.Prelude.{Result, Ok, Err}

-- the first fault of entries
abbrev pub faults : {A : Type 0} → Codec A → List A → ℕ
faults c [] = 0
faults c (y ∷ ys) = first (c.check y) (faults c ys)

module _ {A : Type 0} (z : A) (c : Codec A) where
  pub entries-checked : (left : ℕ) (xs : List A) → 0 < length xs → length xs ≤ suc left → (listed z c left).check xs ≡ faults c xs
  unfolding listed viewed ◌then_by◌ present nothing recurs tested flag first
  entries-checked left [] h k = absurd (omega arith)
  entries-checked zero (y ∷ []) h k = refl
  entries-checked zero (y ∷ x ∷ xs) h k = absurd (omega arith)
  entries-checked (suc left) (y ∷ []) h k = refl
  entries-checked (suc left) (y ∷ x ∷ xs) h k = ap (first (c.check y)) (entries-checked left (x ∷ xs) (omega arith) (omega arith))

  pub none-checked : (left : ℕ) → (listed z c left).check [] ≡ 5
  unfolding listed viewed
  none-checked zero = refl
  none-checked (suc left) = refl

  -- the entries before i are legal
  pub record Checking (room left : ℕ) (l : List A) (k i : ℕ) : Type 0 where
    pub within : i ≤ k
    pub same : (cells z room (suc left) 5 (listed z c left)).check (l, k) ≡ faults c (drop i (take k l))

  module _ (room left : ℕ) (l : List A) (k : ℕ) (whole : length l ≡ room) where
    -- too many, and none
    pub count-over : suc left < k → 5 ≡ (cells z room (suc left) 5 (listed z c left)).check (l, k)
    unfolding cells viewed
    count-over h = rw (lt-leb k (suc left) h) (go (eqb (length l) room))
      where
        go : (b : Bool) → 5 ≡ pick (b && false) ((listed z c left).check (take k l)) 5
        go true = refl
        go false = refl

    fine : k ≤ suc left → (cells z room (suc left) 5 (listed z c left)).check (l, k) ≡ (listed z c left).check (take k l)
    unfolding cells viewed
    fine h = rw (eq-eqb (length l) room whole, le-leb k (suc left) h)

    pub count_none : k ≡ 0 → 5 ≡ (cells z room (suc left) 5 (listed z c left)).check (l, k)
    count_none e = sym (fine (omega arith) ∙ ap (λ (n : ℕ). (listed z c left).check (take n l)) e ∙ none-checked left)

    pub checking-none : 0 < k → k ≤ suc left → suc left ≤ room → Checking room left l k 0
    checking-none h m r =
        record { within = omega arith; same = fine m ∙ entries-checked left (take k l) (rw length-take (omega arith)) (rw length-take (omega arith)) }

    module _ (i : ℕ) (p : Checking room left l k i) where
      pub checking-all : k ≤ i → 0 ≡ (cells z room (suc left) 5 (listed z c left)).check (l, k)
      checking-all h = sym (p.same ∙ ap (faults c) (drop_of_length-le (take k l) {i = i} (rw length-take (omega arith))))

      module _ {B : Type 0} (d : A) (h : i < k) (r : k ≤ room) (a : Result B Fault) (e : check_no a ≡ c.check (get_or l i d)) where
        here : (cells z room (suc left) 5 (listed z c left)).check (l, k) ≡ first (check_no a) (faults c (drop (i + 1) (take k l)))
        here =
            let m : i < length (take k l) = rw length-take (omega arith) in
            p.same ∙ ap (faults c) (drop-cons (take k l) i d m) ∙ rw (add-one, get_or-take k l i d h, e)

        pub checking-more : (x : B) → a ≡ Ok x → Checking room left l k (i + 1)
        checking-more x t = record { within = omega arith; same = here ∙ sym (fine-first a x _ t) }

        pub checking-bad : (C : Type 0) (f : Fault) → a ≡ Err f → check_no {A = C} (Err f) ≡ (cells z room (suc left) 5 (listed z c left)).check (l, k)
        checking-bad C f t = bad-first C a f _ t ∙ sym here
