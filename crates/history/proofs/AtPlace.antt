-- In a list that is in key order a change by key is a change at the key's place: an entry put in there, changed there, or taken out. Assumes nothing.
use Prim.Native.Nat.Ordering.{eq}
use Prim.Native.Nat.Ordering.{gt}
use Prim.Native.Nat.{ℕ, suc, ◌+◌, ◌<◌, ◌≤◌, Ordering}
use mathlib.Core.Path.{◌≡◌, refl, ap, sym, ◌∙◌}
use mathlib.Core.List.{List, [], ◌∷◌, ◌++◌}
use mathlib.Core.Option.{Option, none, some}
use lib.ListN.{length, take, drop, set, get_or}
use native.Mathlib.Omega.{arith}
use Rattle.calls.specs.Keyed.{find, put, alter, InOrder}
use Rattle.calls.proofs.Orders.{Order, cases}
use Rattle.calls.proofs.Keyed.{sorted, find-lt}
use Rattle.transitions.specs.Octets.{place_of}

module _ {K W : Type 0} (cmp : K → K → Ordering) (k : K) where
  pub place-within : (l : List (K × W)) → place_of cmp k l ≤ length l
  unfolding place_of
  place-within [] = omega arith
  place-within (x ∷ l) =
      cases (cmp k x.0) (λ c. rw c (omega arith)) (λ c. rw c (omega arith)) (λ c. let h : place_of cmp k l ≤ length l = place-within l in rw c (omega arith))

  -- no entry has the key
  pub put_in : (w : W) (l : List (K × W)) → find cmp k l ≡ none → put cmp k (some w) l ≡ take (place_of cmp k l) l ++ (k, w) ∷ drop (place_of cmp k l) l
  unfolding find put place_of
  put_in w [] e = refl
  put_in w (x ∷ l) e =
      cases (cmp k x.0)
      (λ c. rw c refl)
      (λ c. let q : ◌≡◌ {A = Option W} (some x.1) none = rw c at e in let z : ◌≡◌ {A = ℕ} 0 1 = cc in absurd (omega arith))
      (λ c. let f : find cmp k l ≡ none = rw c at e in rw c (ap (λ (r : List (K × W)). x ∷ r) (put_in w l f)))

  -- the entry with the key holds v
  pub record Held (v : W) (l : List (K × W)) : Type 0 where
    pub inside : place_of cmp k l < length l
    pub entry : (d : K × W) → get_or l (place_of cmp k l) d ≡ (k, v)
    pub changed : (w : W) → put cmp k (some w) l ≡ set l (place_of cmp k l) (k, w)
    pub altered : (w : W) → alter cmp k (λ o. w) l ≡ set l (place_of cmp k l) (k, w)
    pub removed : put cmp k none l ≡ take (place_of cmp k l) l ++ drop (place_of cmp k l + 1) l

  module _ (O : Order cmp) where
    -- where the first entry has it, and where it is behind the first
    held-here : (v : W) (x : K × W) (l : List (K × W)) → cmp k x.0 ≡ eq → x.1 ≡ v → Held v (x ∷ l)
    unfolding put alter place_of
    held-here v x l c q =
        let p : k ≡ x.0 = O.eq→ k x.0 c in
        record {
          inside = rw c (omega arith);
          entry = λ d. rw c (λ i. (sym p i, q i));
          changed = λ w. rw c refl;
          altered = λ w. rw c (ap (λ (j : K). (j, w) ∷ l) (sym p));
          removed = rw c refl;
        }

    held-behind : (v : W) (x : K × W) (l : List (K × W)) → cmp k x.0 ≡ gt → Held v l → Held v (x ∷ l)
    unfolding put alter place_of
    held-behind v x l c h =
        let e : suc (place_of cmp k l) + 1 ≡ suc (place_of cmp k l + 1) = omega arith in
        record {
          inside = let i : place_of cmp k l < length l = h.inside in rw c (omega arith);
          entry = λ d. rw c (h.entry d);
          changed = λ w. rw c (ap (λ (r : List (K × W)). x ∷ r) (h.changed w));
          altered = λ w. rw c (ap (λ (r : List (K × W)). x ∷ r) (h.altered w));
          removed = rw (c, e) (ap (λ (r : List (K × W)). x ∷ r) h.removed);
        }

    pub held : (v : W) (l : List (K × W)) → InOrder cmp l → find cmp k l ≡ some v → Held v l
    unfolding find InOrder
    held v [] o e = let z : ◌≡◌ {A = ℕ} 0 1 = cc in absurd (omega arith)
    held v (x ∷ l) o e =
        cases (cmp k x.0)
        (λ c.
        let n : find cmp k (x ∷ l) ≡ none = find-lt (sorted O) k x l o c in
        let q : ◌≡◌ {A = Option W} none (some v) = sym n ∙ e in
        let z : ◌≡◌ {A = ℕ} 0 1 = cc in
        absurd (omega arith))
        (λ c. let q : some x.1 ≡ some v = rw c at e in let p : x.1 ≡ v = cc in held-here v x l c p)
        (λ c. let f : find cmp k l ≡ some v = rw c at e in held-behind v x l c (held v l o.1 f))
