-- An array that is filled from its first cell on. Assumes nothing.
use Prim.Native.Nat.{ℕ, suc, ◌+◌, ◌-◌, ◌<◌, ◌≤◌}
use mathlib.Core.Path.{◌≡◌, ap, sym, ◌∙◌}
use mathlib.Core.List.{List, ◌++◌}
use lib.ListN.{length, take, drop, set, replicate, length-set, take-append-drop}
use lib.Seq.{drop-set-lt, drop-drop, length-take-le}
use native.Mathlib.Omega.{arith}
use Rattle.codec.proofs.ListLaws.{length-replicate}

-- `room` cells, x from the n-th on
pub record Filled {A : Type 0} (x : A) (room : ℕ) (xs : List A) (n : ℕ) : Type 0 where
  pub len : length xs ≡ room
  pub rest : drop n xs ≡ replicate (room - n) x

module _ {A : Type 0} (x : A) (room : ℕ) where
  pub filled_none : Filled x room (replicate room x) 0
  filled_none = let m : room ≡ room - 0 = omega arith in record { len = length-replicate room x; rest = ap (λ (j : ℕ). replicate j x) m }

  one_less : (n : ℕ) (l : List A) → n < room → drop n l ≡ replicate (room - n) x → drop (n + 1) l ≡ replicate (room - (n + 1)) x
  one_less n l h e =
      let k : room - n ≡ suc (room - (n + 1)) = omega arith in
      sym (drop-drop 1 n l) ∙ ap (drop 1) (e ∙ ap (λ (j : ℕ). replicate j x) k)

  pub filled_more : (xs : List A) (n : ℕ) (v : A) → n < room → Filled x room xs n → Filled x room (set xs n v) (n + 1)
  filled_more xs n v h f =
      record {
        len = rw length-set f.len;
        rest = rw (drop-set-lt (n + 1) xs n v (omega arith)) (one_less n xs h f.rest);
      }

  -- the array is the one that holds its first n cells' values
  pub filled-all : (xs : List A) (n : ℕ) → n ≤ room → Filled x room xs n → take n xs ++ replicate (room - length (take n xs)) x ≡ xs
  filled-all xs n h f =
      let l : length (take n xs) ≡ n = length-take-le n xs (omega (arith, f.len)) in
      rw (l, ← f.rest) (take-append-drop n xs)
