-- The first of two refusals. Assumes nothing.
use Prim.Native.Nat.{ℕ, zero, suc, ◌<◌}
use mathlib.Core.Path.{◌≡◌, refl}
use native.Mathlib.Omega.{arith}
use Rattle.codec.specs.Codec.{first}
use Rattle.codec.specs.Verdict.{Verdict, in_block, plain, whether, first_of}

-- nothing is refused at first
pub first-none : (v w : Verdict) → v.number ≡ 0 → first_of v w ≡ w
unfolding first_of
first-none v w e = rw e

pub first_some : (v w : Verdict) → 0 < v.number → first_of v w ≡ v
unfolding first_of
first_some v w l = go v.number v.block l
  where
    go : (n b : ℕ) → 0 < n → whether n w (in_block b n) ≡ in_block b n
    go zero b l = absurd (omega arith)
    go (suc n) b l = refl

-- neither refuses
pub first_fine : (v w : Verdict) → (first_of v w).number ≡ 0 → (v.number ≡ 0) × (w.number ≡ 0)
unfolding first_of
first_fine v w = go v.number v.block
  where
    go : (n b : ℕ) → (whether n w (in_block b n)).number ≡ 0 → (n ≡ 0) × (w.number ≡ 0)
    go zero b e = (refl, e)
    go (suc n) b e = absurd (omega arith)

pub first-assoc : (u v w : Verdict) → first_of (first_of u v) w ≡ first_of u (first_of v w)
unfolding first_of
first-assoc u v w = go u.number u.block
  where
    go : (n b : ℕ) → first_of (whether n v (in_block b n)) w ≡ whether n (first_of v w) (in_block b n)
    go zero b = refl
    go (suc n) b = refl

-- of refusals that tell no block
pub first_plain : (f g : ℕ) → first_of (plain f) (plain g) ≡ plain (first f g)
unfolding first_of first
first_plain zero g = refl
first_plain (suc f) g = refl
