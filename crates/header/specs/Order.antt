-- Rules in their order: the first that is broken, and the first block that breaks it, counted from 1.
use Rattle.std.specs.Prelude.{ℕ, ◌+◌, Bool, true, List, [], ◌∷◌}
use Rattle.codec.specs.Answer.{pick}
use Rattle.codec.specs.Verdict.{Verdict, in_block, plain, fine, first_of}

-- a rule: its number, what it asks of the record as a whole, and what it asks of each block
pub record Rule (A : Type 0) : Type 0 where
  pub number : ℕ
  pub whole : Bool
  pub each : A → Bool

-- one that asks something of each block alone
abbrev pub of_each : {A : Type 0} → ℕ → (A → Bool) → Rule A
of_each n f = record { number = n; whole = true; each = f }

-- one that asks something of the record alone
abbrev pub of_whole : {A : Type 0} → ℕ → Bool → Rule A
of_whole n b = record { number = n; whole = b; each = λ x. true }

-- the first of the blocks, of which the first is the n-th, that breaks a rule
unfoldable pub over : {A : Type 0} → Rule A → ℕ → List A → Verdict
over r n [] = fine
over r n (b ∷ bs) = pick (r.each b) (over r (n + 1) bs) (in_block n r.number)

-- rule by rule: the record as a whole, then the blocks from the first
unfoldable pub in_order : {A : Type 0} → List (Rule A) → List A → Verdict
in_order [] bs = fine
in_order (r ∷ rs) bs = first_of (pick r.whole fine (plain r.number)) (first_of (over r 1 bs) (in_order rs bs))
