-- The parts of document 01's sameness: of something that may be absent, and of an array of which only the first cells are used. What is not used is not compared.
use Rattle.std.specs.Prelude.{ℕ, ◌≡◌, Bool, true, List, length, take}

abbrev pub ◌and◌ : Type 0 → Type 0 → Type 0
◌and◌ P Q = P × Q

infixr 3 ◌and◌
-- a presence with what is present: both absent, or both present and the contents the same
abbrev pub same_optional : {A : Type 0} → (A → A → Type 0) → Bool × A → Bool × A → Type 0
same_optional S x y = (x.0 ≡ y.0) and (x.0 ≡ true → S x.1 y.1)

-- an array with its count: the counts agree, and the used cells hold the same list. (The arrays also have equally many cells: every two arrays
-- of one declared type have, two lists of this logic need not.)
abbrev pub same_array : {A : Type 0} → (List A → List A → Type 0) → List A × ℕ → List A × ℕ → Type 0
same_array S x y = (length x.0 ≡ length y.0) and (x.1 ≡ y.1) and S (take x.1 x.0) (take y.1 y.0)
