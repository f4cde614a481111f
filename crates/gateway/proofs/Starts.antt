-- Where the user data starts in a datagram.
use Prim.Native.Nat.{ℕ, zero, suc, ◌-◌, ◌≤◌}
use mathlib.Core.Path.{◌≡◌, refl, ap, ◌∙◌}
use mathlib.Core.List.{List, [], ◌∷◌}
use lib.ListN.{length, drop, length-drop, drop_of_length-le}
use native.Mathlib.Omega.{arith}
use Rattle.reader.specs.Reading.{Reading, accepted, rejected, behind_header}

-- a part that runs to the end is found from its length
from_end : (n : ℕ) (s : List ℕ) → drop (length s - length (drop n s)) s ≡ drop n s
from_end zero s = let e : length s - length s ≡ 0 = omega arith in ap (λ (k : ℕ). drop k s) e
from_end (suc n) [] = refl
from_end (suc n) (x ∷ s) =
    let e : suc (length s) - length (drop n s) ≡ suc (length s - length (drop n s)) = omega (arith, length-drop n s) in
    ap (λ (k : ℕ). drop k (x ∷ s)) e ∙ from_end n s

module _ (s : List ℕ) where
  pub within : (x : Reading) → length (behind_header s x) ≤ length s
  unfolding behind_header
  within (accepted h n) = omega (arith, length-drop n s)
  within (rejected f p b) = omega arith

  pub starts : (x : Reading) → drop (length s - length (behind_header s x)) s ≡ behind_header s x
  unfolding behind_header
  starts (accepted h n) = from_end n s
  starts (rejected f p b) = drop_of_length-le s {i = length s - 0} (omega arith)
