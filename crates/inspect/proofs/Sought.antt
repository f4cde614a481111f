-- The place of a key, gathered while every row is looked at: still open, or found. Assumes nothing.
use Rattle.std.specs.Prelude.{Ok, Err}
use Prim.Native.Nat.Ordering.{eq}
use Prim.Native.Nat.Ordering.{gt}
use Prim.Native.Nat.Ordering.{lt}
use Prim.Native.Nat.{ℕ, ◌+◌, ◌<◌, ◌≤◌, Ordering}
use mathlib.Core.Path.{◌≡◌, refl, sym, subst, ◌∙◌}
use mathlib.Core.Bool.{Bool, true, false}
use mathlib.Core.List.{List, map}
use lib.ListN.{length, take, get_or}
use lib.Dec.{ltb}
use borrow.Author.Tests.{ltb-true, ltb-false}
use native.Mathlib.Omega.{arith}
use Rattle.table.specs.Search.{Stopped}
use Rattle.table.specs.Search.{Position, index_of, is_held}
use Rattle.table.proofs.Seeking.{Seeking, seeking-none, seeking-more, seeking-end, seeking-held, seeking-free, no_way}
use Rattle.inspect.specs.Places.{further}

module _ {A K : Type 0} (cmp : K → K → Ordering) (h : A → K) (k : K) (n : ℕ) (l : List A) where
  -- behind the first i cells: the keys of all of them come before k, or the search has stopped among them
  pub record Sought (i : ℕ) (p : Position) : Type 0 where
    pub top : i ≤ n
    pub within : index_of p ≤ i
    pub seeking : Seeking cmp h k n l (index_of p)
    pub going : index_of p ≡ i → is_held p ≡ false
    pub shut : index_of p < i → Stopped cmp k (map h (take n l)) (index_of p) (is_held p)

  pub sought-none : Sought 0 (Err 0)
  sought-none = record { top = omega arith; within = omega arith; seeking = seeking-none cmp h k n l; going = λ e. refl; shut = λ q. absurd (omega arith) }

  -- a key that is held is held by one of them
  pub sought-held : (i : ℕ) (p : Position) → Sought i p → is_held p ≡ true → index_of p < i
  sought-held i p s e = go (ltb (index_of p) i) refl
    where
      go : (b : Bool) → ltb (index_of p) i ≡ b → index_of p < i
      go true t = ltb-true (index_of p) i t
      go false t =
          let w : index_of p ≤ i = s.within in
          let m : i ≤ index_of p = ltb-false (index_of p) i t in
          no_way (sym (s.going (omega arith)) ∙ e)

  module _ (fits : n ≤ length l) where
    pub sought-all : (i : ℕ) (p : Position) → Sought i p → n ≤ i → Stopped cmp k (map h (take n l)) (index_of p) (is_held p)
    sought-all i p s e = go (ltb (index_of p) i) refl
      where
        go : (b : Bool) → ltb (index_of p) i ≡ b → Stopped cmp k (map h (take n l)) (index_of p) (is_held p)
        go true t = s.shut (ltb-true (index_of p) i t)
        go false t =
            let w : index_of p ≤ i = s.within in
            let m : i ≤ index_of p = ltb-false (index_of p) i t in
            subst (Stopped cmp k (map h (take n l)) (index_of p)) (sym (s.going (omega arith))) (seeking-end cmp h k n l (index_of p) s.seeking fits (omega arith))

    module _ (i : ℕ) (p : Position) (s : Sought i p) (d : A) (m : i < n) where
      kept : index_of p < i → Sought (i + 1) p
      kept q = record { top = omega arith; within = omega arith; seeking = s.seeking; going = λ e. absurd (omega arith); shut = λ z. s.shut q }

      module _ (e : index_of p ≡ i) where
        here : Seeking cmp h k n l i
        here = subst (Seeking cmp h k n l) e s.seeking

        stays : cmp k (h (get_or l i d)) ≡ lt → Sought (i + 1) p
        stays c =
            let f : Stopped cmp k (map h (take n l)) i false = seeking-free cmp h k n l i here fits d m c in
            record {
              top = omega arith;
              within = omega arith;
              seeking = s.seeking;
              going = λ z. absurd (omega arith);
              shut = λ z. subst (λ (x : ℕ). Stopped cmp k (map h (take n l)) x (is_held p)) (sym e) (subst (Stopped cmp k (map h (take n l)) i) (sym (s.going e)) f);
            }

        found : cmp k (h (get_or l i d)) ≡ eq → Sought (i + 1) (Ok i)
        found c = record { top = omega arith; within = omega arith; seeking = here; going = λ z. absurd (omega arith); shut = λ z. seeking-held cmp h k n l i here fits d m c }

        passed : cmp k (h (get_or l i d)) ≡ gt → Sought (i + 1) (Err (i + 1))
        passed c = record { top = omega arith; within = omega arith; seeking = seeking-more cmp h k n l i here fits d m c; going = λ z. refl; shut = λ z. absurd (omega arith) }

      pub sought-more : (c : Ordering) → cmp k (h (get_or l i d)) ≡ c → Sought (i + 1) (further i c p)
      unfolding further
      sought-more c e = go (ltb (index_of p) i) refl c e
        where
          go : (b : Bool) → ltb (index_of p) i ≡ b → (c : Ordering) → cmp k (h (get_or l i d)) ≡ c → Sought (i + 1) (further i c p)
          go true t c z = rw t (kept (ltb-true (index_of p) i t))
          go false t lt z = let w : index_of p ≤ i = s.within in let m : i ≤ index_of p = ltb-false (index_of p) i t in rw t (stays (omega arith) z)
          go false t eq z = let w : index_of p ≤ i = s.within in let m : i ≤ index_of p = ltb-false (index_of p) i t in rw t (found (omega arith) z)
          go false t gt z = let w : index_of p ≤ i = s.within in let m : i ≤ index_of p = ltb-false (index_of p) i t in rw t (passed (omega arith) z)
