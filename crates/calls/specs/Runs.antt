-- Lists of calls, each given the state that the call before it left.
use Rattle.std.specs.Prelude.{◌≡◌, List, [], ◌∷◌, ◌++◌, ℕ, zero, suc, length}

-- two neighbours of a list change places, those behind the first n
unfoldable pub exchange : {A : Type 0} → ℕ → List A → List A
exchange zero [] = []
exchange zero (x ∷ []) = x ∷ []
exchange zero (x ∷ (y ∷ l)) = y ∷ (x ∷ l)
exchange (suc n) [] = []
exchange (suc n) (x ∷ l) = x ∷ exchange n l

-- a call's step gives its answer and the state behind it
module _ {C S A : Type 0} (step : C → S → A × S) where
  -- the state behind the last call
  unfoldable pub final : S → List C → S
  final s [] = s
  final s (c ∷ cs) = final (step c s).1 cs

  -- each call's answer
  unfoldable pub answers : S → List C → List A
  answers s [] = []
  answers s (c ∷ cs) = (step c s).0 ∷ answers (step c s).1 cs

  -- the state before the first call and behind each
  unfoldable pub states : S → List C → List S
  states s [] = s ∷ []
  states s (c ∷ cs) = s ∷ states (step c s).1 cs

  -- a and b, neighbours behind the calls `pre`, change places: every call gets its same answer, and the state ends the same
  pub record Changed (s : S) (pre : List C) (a b : C) (rest : List C) : Type 0 where
    pub same_answers : answers s (pre ++ b ∷ (a ∷ rest)) ≡ exchange (length pre) (answers s (pre ++ a ∷ (b ∷ rest)))
    pub same_end : final s (pre ++ b ∷ (a ∷ rest)) ≡ final s (pre ++ a ∷ (b ∷ rest))

-- A run of the code. `Transition c t x t'`: what the contract of the call c promises of its answer x and of the table t' that it leaves, given t. A run has
-- the calls, their answers, the tables before the first and behind each, and the last table.
pub data Ran {C A B : Type 0} (Transition : C → B → A → B → Type 0) : B → List C → List A → List B → B → Type 0 where
  stop : {t : B} → Ran Transition t [] [] (t ∷ []) t
  call : {t t' e : B} {c : C} {x : A} {cs : List C} {xs : List A} {ts : List B} → Transition c t x t' → Ran Transition t' cs xs ts e → Ran Transition t (c ∷ cs) (x ∷ xs) (t ∷ ts) e
