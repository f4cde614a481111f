-- What reading answers, and how one reading follows another.
use Rattle.std.specs.Prelude.{ℕ, Bool, true, false}

-- what reading at a place gives: what was there and the place behind it; or a refusal, by document 01's number and the bit place
pub data Answer (A : Type 0) : Type 0 where
  got : A → ℕ → Answer A
  refused : ℕ → ℕ → Answer A

-- go on from a value; a refusal ends the reading
unfoldable pub next : {A B : Type 0} → Answer A → (A → ℕ → Answer B) → Answer B
next (got x q) k = k x q
next (refused f p) k = refused f p

-- x where the test holds, else y
abbrev pub pick : {A : Type 0} → Bool → A → A → A
pick true x y = x
pick false x y = y
