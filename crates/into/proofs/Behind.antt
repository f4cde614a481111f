-- Octets that are filled from the left: what lies behind those that are there is 0. Assumes nothing.
use Prim.Native.Nat.{ℕ, zero, suc, ◌+◌, ◌-◌, ◌≤◌}
use mathlib.Core.Path.{◌≡◌, sym, ap, ◌∙◌}
use mathlib.Core.List.{List, ◌∷◌, ◌++◌}
use native.Mathlib.Omega.{arith}
use lib.ListN.{length, drop}
use lib.Seq.{drop_at}
use Rattle.cells.specs.Cells.{zeros}

pub zeros-add : (a b : ℕ) → zeros a ++ zeros b ≡ zeros (a + b)
zeros-add zero b = let e : b ≡ 0 + b = omega arith in ap zeros e
zeros-add (suc a) b = let e : suc (a + b) ≡ suc a + b = omega arith in ap (λ (l : List ℕ). 0 ∷ l) (zeros-add a b) ∙ ap zeros e

-- of n octets the first a are p, and the others 0
pub record Ready (n : ℕ) (s : List ℕ) (a : ℕ) (p : List ℕ) : Type 0 where
  pub is : s ≡ p ++ zeros (n - a)
  pub long : length p ≡ a

module _ {n a : ℕ} {s p : List ℕ} (k : ℕ) (f : Ready n s a p) (h : a + k ≤ n) where
  pub behind : drop a s ≡ zeros k ++ zeros (n - (a + k))
  behind =
      let e : k + (n - (a + k)) ≡ n - a = omega arith in
      ap (drop a) f.is ∙ drop_at p (zeros (n - a)) a f.long ∙ sym (zeros-add k (n - (a + k)) ∙ ap zeros e)
