-- Where a legal list in an array ends: its entries followed one after the other, for any entry. Assumes nothing.
use Prim.Native.Nat.{ℕ, zero, suc, ◌+◌, ◌<◌, ◌≤◌}
use mathlib.Core.Path.{◌≡◌, refl, ap, sym, ◌∙◌}
use mathlib.Core.Bool.{Bool, true, ◌&&◌}
use mathlib.Core.List.{List, [], ◌∷◌, ◌++◌}
use lib.ListN.{length, take, drop, get_or, length-take, drop_of_length-le}
use lib.Seq.{drop-cons, get_or-take}
use lib.Dec.{leb, eqb, lit<}
use borrow.Author.Tests.{eqb-true, leb-true, eq-eqb, le-leb}
use native.Mathlib.Numerals.{add-one}
use native.Mathlib.Omega.{arith}
use Rattle.codec.specs.Codec.{Codec, flag, nothing, present, tested, viewed, ◌then_by◌}
use Rattle.codec.specs.Lists.{non_empty, recurs, listed, cells}
use Rattle.codec.proofs.Fields.{and_left, and_right}
use Rattle.codec.proofs.Sequences.{first-zero}
use Rattle.codec.proofs.ListLaws.{fine-legal}
use Rattle.codec.proofs.ListChecks.{faults, entries-checked, none-checked}

-- the bits of entries, each with its recurrence bit
abbrev sizes : {A : Type 0} → Codec A → List A → ℕ
sizes c [] = 0
sizes c (y ∷ ys) = 1 + c.size y + sizes c ys

abbrev written : {A : Type 0} → Codec A → List A → List Bool
written c [] = []
written c (y ∷ ys) = (non_empty ys ∷ c.write y) ++ written c ys

no-fault : {A : Type 0} (c : Codec A) (xs : List A) (i : ℕ) (d : A) → i < length xs → faults c xs ≡ 0 → c.check (get_or xs i d) ≡ 0
no-fault c [] i d h e = absurd (omega arith)
no-fault c (y ∷ xs) zero d h e = (first-zero (c.check y) (faults c xs) e).0
no-fault c (y ∷ xs) (suc i) d h e = no-fault c xs i d (omega arith) (first-zero (c.check y) (faults c xs) e).1

module _ {A : Type 0} (z : A) (c : Codec A) where
  entries-sized : (left : ℕ) (xs : List A) → 0 < length xs → length xs ≤ suc left → (listed z c left).size xs ≡ sizes c xs
  unfolding listed viewed ◌then_by◌ present nothing recurs tested flag
  entries-sized left [] h k = absurd (omega arith)
  entries-sized zero (y ∷ []) h k = refl
  entries-sized zero (y ∷ x ∷ xs) h k = absurd (omega arith)
  entries-sized (suc left) (y ∷ []) h k = refl
  entries-sized (suc left) (y ∷ x ∷ xs) h k = ap (λ (n : ℕ). 1 + c.size y + n) (entries-sized left (x ∷ xs) (omega arith) (omega arith))

  -- the entries' bits, each behind its recurrence bit
  entries-written : (left : ℕ) (xs : List A) → 0 < length xs → length xs ≤ suc left → (listed z c left).write xs ≡ written c xs
  unfolding listed viewed ◌then_by◌ present nothing recurs tested flag
  entries-written left [] h k = absurd (omega arith)
  entries-written zero (y ∷ []) h k = refl
  entries-written zero (y ∷ x ∷ xs) h k = absurd (omega arith)
  entries-written (suc left) (y ∷ []) h k = refl
  entries-written (suc left) (y ∷ x ∷ xs) h k = ap (λ (l : List Bool). (true ∷ c.write y) ++ l) (entries-written left (x ∷ xs) (omega arith) (omega arith))

  -- the entries before i end at place q
  pub record Ending (room left : ℕ) (l : List A) (k p i q : ℕ) : Type 0 where
    pub within : i ≤ k
    pub place : q + sizes c (drop i (take k l)) ≡ p + (cells z room (suc left) 5 (listed z c left)).size (l, k)

  module _ (room left : ℕ) (l : List A) (k : ℕ) (legal : (cells z room (suc left) 5 (listed z c left)).check (l, k) ≡ 0) where
    fine-list : ((eqb (length l) room && leb k (suc left)) ≡ true) × ((listed z c left).check (take k l) ≡ 0)
    unfolding cells viewed
    fine-list = fine-legal (eqb (length l) room && leb k (suc left)) ((listed z c left).check (take k l)) 5 (lit< tt) legal

    pub whole-array : length l ≡ room
    whole-array = eqb-true (length l) room (and_left (eqb (length l) room) (leb k (suc left)) fine-list.0)

    pub count_most : k ≤ suc left
    count_most = leb-true k (suc left) (and_right (eqb (length l) room) (leb k (suc left)) fine-list.0)

    pub count-some : 0 < k
    count-some = go k fine-list.1
      where
        go : (n : ℕ) → (listed z c left).check (take n l) ≡ 0 → 0 < n
        go zero e = absurd (omega (arith, none-checked z c left))
        go (suc n) e = omega arith

    module _ (fits : suc left ≤ room) where
      used : length (take k l) ≡ k
      used = rw length-take (omega (arith, whole-array, count_most))

      pub ending-none : (p : ℕ) → Ending room left l k p 0 p
      unfolding cells viewed
      ending-none p =
          record { within = omega arith; place = ap (λ (n : ℕ). p + n) (sym (entries-sized left (take k l) (omega (arith, used, count-some)) (omega (arith, used, count_most)))) }

      pub entry-legal : (i : ℕ) (d : A) → i < k → c.check (get_or l i d) ≡ 0
      entry-legal i d h =
          let e : faults c (take k l) ≡ 0 = sym (entries-checked z c left (take k l) (omega (arith, used, count-some)) (omega (arith, used, count_most))) ∙ fine-list.1 in
          rw (get_or-take k l i d h) at (no-fault c (take k l) i d (omega (arith, used)) e)

      module _ (p i q : ℕ) (w : Ending room left l k p i q) where
        pub ending-all : k ≤ i → q ≡ p + (cells z room (suc left) 5 (listed z c left)).size (l, k)
        ending-all h =
            let d : drop i (take k l) ≡ [] = drop_of_length-le (take k l) {i = i} (omega (arith, used)) in
            omega (arith, w.place, ap (sizes c) d)

        module _ (d : A) (h : i < k) where
          here : sizes c (drop i (take k l)) ≡ 1 + c.size (get_or l i d) + sizes c (drop (i + 1) (take k l))
          here = ap (sizes c) (drop-cons (take k l) i d (omega (arith, used))) ∙ rw (add-one, get_or-take k l i d h)

          -- there is a place for the recurrence bit, and for the entry behind it
          pub ending-flag : (limit : ℕ) → p + (cells z room (suc left) 5 (listed z c left)).size (l, k) ≤ limit → q + 1 ≤ limit
          ending-flag limit m = omega (arith, w.place, here)

          pub ending-entry : (limit b : ℕ) → b ≡ q + 1 → p + (cells z room (suc left) 5 (listed z c left)).size (l, k) ≤ limit → b + c.size (get_or l i d) ≤ limit
          ending-entry limit b e m = omega (arith, w.place, here)

          pub ending-more : (b r : ℕ) → b ≡ q + 1 → r ≡ b + c.size (get_or l i d) → Ending room left l k p (i + 1) r
          ending-more b r e f = record { within = omega arith; place = omega (arith, w.place, here) }

-- a list that is legal with room for fewer is legal with room for more, as long and written as the same bits
module _ {A : Type 0} (z : A) (c : Codec A) (room few left : ℕ) (l : List A) (k : ℕ) (legal : (cells z room (suc few) 5 (listed z c few)).check (l, k) ≡ 0) (le : few ≤ left) (fits : suc left ≤ room) where
  in-few : length (take k l) ≤ suc few
  in-few = rw length-take (omega (arith, count_most z c room few l k legal))

  not_none : 0 < length (take k l)
  not_none = rw length-take (omega (arith, count-some z c room few l k legal, whole-array z c room few l k legal))

  pub wider-legal : (cells z room (suc left) 5 (listed z c left)).check (l, k) ≡ 0
  unfolding cells viewed
  wider-legal =
      rw (eq-eqb (length l) room (whole-array z c room few l k legal), le-leb k (suc left) (omega (arith, count_most z c room few l k legal)))
      (entries-checked z c left (take k l) not_none (omega (arith, in-few))
      ∙ sym (entries-checked z c few (take k l) not_none in-few)
      ∙ (fine-list z c room few l k legal).1)

  pub wider-size : (cells z room (suc few) 5 (listed z c few)).size (l, k) ≡ (cells z room (suc left) 5 (listed z c left)).size (l, k)
  unfolding cells viewed
  wider-size = entries-sized z c few (take k l) not_none in-few ∙ sym (entries-sized z c left (take k l) not_none (omega (arith, in-few)))

  pub wider-write : (cells z room (suc few) 5 (listed z c few)).write (l, k) ≡ (cells z room (suc left) 5 (listed z c left)).write (l, k)
  unfolding cells viewed
  wider-write = entries-written z c few (take k l) not_none in-few ∙ sym (entries-written z c left (take k l) not_none (omega (arith, in-few)))
