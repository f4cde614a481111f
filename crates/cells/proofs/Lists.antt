-- Things of n octets each: how many, and one of them. Assumes nothing.
use Prim.Native.Nat.{ℕ, zero, suc, ◌+◌, ◌*◌, ◌<◌}
use mathlib.Core.Path.{◌≡◌, refl, sym, ap, ◌∙◌}
use mathlib.Core.List.{List}
use native.Mathlib.Omega.{arith}
use lib.ListN.{length, take, drop, get_or}
use lib.Seq.{drop-drop}
use Rattle.cells.specs.Cells.{many}

module _ {A : Type 0} (from : List ℕ → A) (n : ℕ) where
  pub many-count : (k : ℕ) (s : List ℕ) → length (many from n k s) ≡ k
  unfolding many
  many-count zero s = refl
  many-count (suc k) s = ap suc (many-count k (drop n s))

  pub many-at : (k i : ℕ) (s : List ℕ) (d : A) → i < k → get_or (many from n k s) i d ≡ from (take n (drop (i * n) s))
  unfolding many
  many-at zero i s d h = absurd (omega arith)
  many-at (suc k) zero s d h = let z : 0 ≡ 0 * n = omega arith in ap (λ (j : ℕ). from (take n (drop j s))) z
  many-at (suc k) (suc i) s d h =
      let e : n + i * n ≡ suc i * n = omega arith in
      many-at k i (drop n s) d (omega arith) ∙ ap (λ (z : List ℕ). from (take n z)) (drop-drop (i * n) n s ∙ ap (λ (j : ℕ). drop j s) e)

  -- as `entry` lends it
  pub many-entry : (k i : ℕ) (s e : List ℕ) (d : A) → e ≡ take n (drop (i * n) s) → i < k → from e ≡ get_or (many from n k s) i d
  many-entry k i s e d q h = ap from q ∙ sym (many-at k i s d h)
