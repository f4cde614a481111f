-- A search from the left over the used cells of an array, by the key of each. Assumes nothing.
use Prim.Native.Nat.Ordering.{eq}
use Prim.Native.Nat.Ordering.{gt}
use Prim.Native.Nat.Ordering.{lt}
use Prim.Native.Nat.{ℕ, zero, suc, ◌+◌, ◌<◌, ◌≤◌, Ordering}
use mathlib.Core.Path.{◌≡◌, refl, ap, sym, ◌∙◌}
use mathlib.Core.Bool.{Bool, true, false}
use mathlib.Core.List.{List, [], ◌∷◌, map}
use lib.ListN.{length, take, get_or, length-map}
use lib.Dec.{ltb}
use borrow.Author.Tests.{ltb-true, ltb-false}
use lib.Seq.{get_or-take, length-take-le}
use native.Mathlib.Omega.{arith}
use Rattle.table.specs.Search.{Stopped}

pub no_way : {R : Type 0} → false ≡ true → R
no_way e = let z : ◌≡◌ {A = ℕ} 0 1 = cc in absurd (omega arith)

-- a cell of a list, whatever stands for those outside it
pub cell-of : {A K : Type 0} (h : A → K) (l : List A) (j : ℕ) (d : K) (a : A) → j < length l → get_or (map h l) j d ≡ h (get_or l j a)
cell-of h [] j d a p = absurd (omega arith)
cell-of h (x ∷ l) zero d a p = refl
cell-of h (x ∷ l) (suc j) d a p = cell-of h l j d a (omega arith)

module _ {A K : Type 0} (cmp : K → K → Ordering) (h : A → K) (k : K) (n : ℕ) (l : List A) where
  -- the keys of the cells before i come before k
  pub record Seeking (i : ℕ) : Type 0 where
    pub within : i ≤ n
    pub behind : (d : K) (j : ℕ) → j < i → cmp k (get_or (map h (take n l)) j d) ≡ gt

  pub seeking-none : Seeking 0
  seeking-none = record { within = omega arith; behind = λ d j p. absurd (omega arith) }

  module _ (i : ℕ) (s : Seeking i) (fits : n ≤ length l) where
    long : length (map h (take n l)) ≡ n
    long = length-map (take n l) h ∙ length-take-le n l fits

    here : (d : K) (a : A) → i < n → get_or (map h (take n l)) i d ≡ h (get_or l i a)
    here d a p = cell-of h (take n l) i d a (rw (length-take-le n l fits) p) ∙ ap h (get_or-take n l i a p)

    pub seeking-more : (a : A) → i < n → cmp k (h (get_or l i a)) ≡ gt → Seeking (i + 1)
    seeking-more a p e = record { within = omega arith; behind = λ d j q. go d j q (ltb j i) refl }
      where
        go : (d : K) (j : ℕ) → j < i + 1 → (b : Bool) → ltb j i ≡ b → cmp k (get_or (map h (take n l)) j d) ≡ gt
        go d j q true t = s.behind d j (ltb-true j i t)
        go d j q false t = let m : i ≤ j = ltb-false j i t in let z : j ≡ i = omega arith in rw (z, here d a p) e

    pub seeking-end : n ≤ i → Stopped cmp k (map h (take n l)) i false
    seeking-end p =
        let w : i ≤ n = s.within in
        record {
          within = rw long w;
          behind = s.behind;
          inside = λ e. no_way e;
          same = λ d e. no_way e;
          before = λ d e q. let z : i < n = rw long at q in absurd (omega arith);
        }

    pub seeking-held : (a : A) → i < n → cmp k (h (get_or l i a)) ≡ eq → Stopped cmp k (map h (take n l)) i true
    seeking-held a p e =
        let w : i ≤ n = s.within in
        record {
          within = rw long w;
          behind = s.behind;
          inside = λ q. rw long p;
          same = λ d q. rw (here d a p) e;
          before = λ d q z. no_way (sym q);
        }

    pub seeking-free : (a : A) → i < n → cmp k (h (get_or l i a)) ≡ lt → Stopped cmp k (map h (take n l)) i false
    seeking-free a p e =
        let w : i ≤ n = s.within in
        record {
          within = rw long w;
          behind = s.behind;
          inside = λ q. no_way q;
          same = λ d q. no_way q;
          before = λ d q z. rw (here d a p) e;
        }
