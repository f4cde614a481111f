-- An answer: the number of the refusal, 0 for none, and the message block that it is about, counted from 1; 0 where it is about none.
use Rattle.std.specs.Prelude.{ℕ, zero, suc}

pub record Verdict : Type 0 where
  pub number : ℕ
  pub block : ℕ

-- a refusal that is about a block
abbrev pub in_block : ℕ → ℕ → Verdict
in_block b n = record { number = n; block = b }

-- one that is about none
abbrev pub plain : ℕ → Verdict
plain n = record { number = n; block = 0 }

-- nothing is refused
abbrev pub fine : Verdict
fine = plain 0

-- by the number: x where nothing is refused, y where something is
abbrev pub whether : {A : Type 0} → ℕ → A → A → A
whether zero x y = x
whether (suc n) x y = y

-- the first of two refusals
unfoldable pub first_of : Verdict → Verdict → Verdict
first_of v w = whether v.number w v
