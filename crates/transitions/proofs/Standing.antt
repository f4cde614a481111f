-- Where a search stopped is how many come before. Assumes nothing.
use Prim.Native.Nat.{ℕ, zero, suc, Ordering}
use mathlib.Core.Path.{◌≡◌, refl, ap}
use mathlib.Core.Bool.{Bool, true, false}
use mathlib.Core.List.{List, [], ◌∷◌, map}
use native.Mathlib.Omega.{arith}
use Rattle.table.specs.Search.{Stopped}
use Rattle.table.proofs.Search.{stopped-next, stopped-end, held-inside}
use Rattle.transitions.specs.Octets.{place_of}

-- h: the entry of a cell, its key and its value
module _ {A K W : Type 0} {cmp : K → K → Ordering} (h : A → K × W) (k : K) where
  pub place_is : (l : List A) (at : ℕ) (held : Bool) → Stopped cmp k (map (λ x. (h x).0) l) at held → at ≡ place_of cmp k (map h l)
  unfolding place_of
  place_is [] zero held s = refl
  place_is [] (suc at) true s = absurd (held-inside (suc at) s)
  place_is [] (suc at) false s = absurd (stopped-end at s)
  place_is (x ∷ l) zero true s = rw (s.same k refl)
  place_is (x ∷ l) zero false s = rw (s.before k refl (omega arith))
  place_is (x ∷ l) (suc at) held s = rw (s.behind k 0 (omega arith)) (ap suc (place_is l at held (stopped-next _ _ at held s)))
