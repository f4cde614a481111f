-- Rules by their ranks. A block's rank is the number of rules that it keeps before the first that it breaks; of two blocks the one with the lesser rank breaks the earlier rule.
use Rattle.std.specs.Prelude.{ℕ, zero, suc, List, [], ◌∷◌, map, leb}
use Rattle.codec.specs.Answer.{pick}
use Rattle.codec.specs.Verdict.{Verdict, in_block, fine}
use Rattle.header.specs.Order.{Rule}

unfoldable pub rank : {A : Type 0} → List (Rule A) → A → ℕ
rank [] b = 0
rank (r ∷ rs) b = pick (r.each b) (suc (rank rs b)) 0

-- and that of the record as a whole
unfoldable pub whole_rank : {A : Type 0} → List (Rule A) → ℕ
whole_rank [] = 0
whole_rank (r ∷ rs) = pick r.whole (suc (whole_rank rs)) 0

abbrev pub numbers_of : {A : Type 0} → List (Rule A) → List ℕ
numbers_of rs = map (λ r. r.number) rs

-- those of the rules (a) to (i), and of the two that ask something of a block's body
abbrev pub rule_numbers : List ℕ
rule_numbers = 41 ∷ 42 ∷ 43 ∷ 44 ∷ 45 ∷ 46 ∷ 47 ∷ 48 ∷ 49 ∷ []

abbrev pub body_numbers : List ℕ
body_numbers = 53 ∷ 54 ∷ []

-- what is told of the rule with a rank, broken in the n-th block; nothing behind the last rule
unfoldable pub told_of : List ℕ → ℕ → ℕ → Verdict
told_of [] k n = fine
told_of (m ∷ ms) zero n = in_block n m
told_of (m ∷ ms) (suc k) n = told_of ms k n

-- a block with rank m beside what was found before it, rank k in a block n: it takes that place where it breaks an earlier rule
abbrev pub better_rank : ℕ → ℕ → ℕ
better_rank m k = pick (leb (suc m) k) m k

abbrev pub better_block : ℕ → ℕ → ℕ → ℕ → ℕ
better_block m k i n = pick (leb (suc m) k) i n
