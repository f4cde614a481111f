-- The sizes: what each block owns of the octets behind the header; and the rules and the sizes of a record, in their order.
use Rattle.std.specs.Prelude.{ℕ, ◌+◌, Bool, not, List, [], ◌∷◌, map, leb, eqb}
use Rattle.codec.specs.Answer.{pick}
use Rattle.codec.specs.Verdict.{Verdict, first_of}
use Rattle.header.specs.Order.{Rule, of_each, of_whole, in_order}
use Rattle.header.specs.Rules.{◌⇒◌, rules, used_blocks}
use Rattle.header.specs.declared.Block.{Block}
use Rattle.header.specs.declared.Blocks.{Blocks}
use Rattle.header.specs.declared.Setting.{Setting}

-- a block's message size, 0 where it has none
abbrev pub size_of : Block → ℕ
size_of b = pick b.handling.size.present b.handling.size.value 0

-- what the blocks own of the data octets: one block without a size owns them all, otherwise each owns its size
unfoldable pub shares : ℕ → List Block → List (Block × ℕ)
shares octets [] = []
shares octets (b ∷ []) = (b, pick b.handling.size.present b.handling.size.value octets) ∷ []
shares octets (b ∷ c ∷ bs) = map (λ x. (x, size_of x)) (b ∷ c ∷ bs)

unfoldable pub total : List (Block × ℕ) → ℕ
total [] = 0
total (x ∷ xs) = x.1 + total xs

-- a block without G8 owns at least one octet; one with G8 owns none, so that it is never in format 4, which cannot do without
unfoldable pub has_body : Block × ℕ → Bool
has_body x = pick x.0.response.present (not (eqb x.0.format.umf 4)) (leb 1 x.1)

-- a block with G8 owns nothing
unfoldable pub none_needless : Block × ℕ → Bool
none_needless x = x.0.response.present ⇒ eqb x.1 0

-- whether the header size, where there is one, is the header's octets; whether the sizes sum to the data octets; then each block with what it owns
abbrev pub size_rules : Bool → Bool → List (Rule (Block × ℕ))
size_rules holds sums = of_whole 51 holds ∷ of_whole 52 sums ∷ of_each 53 has_body ∷ of_each 54 none_needless ∷ []

-- what is wrong with the sizes of blocks with so many data octets behind the header
unfoldable pub wrong_size : Bool → ℕ → List Block → Verdict
wrong_size holds octets bs = in_order (size_rules holds (eqb (total (shares octets bs)) octets)) (shares octets bs)

-- the rules, then the sizes
unfoldable pub judgement : Setting → Bool → ℕ → Blocks → Verdict
judgement x holds octets g = first_of (in_order (rules x) (used_blocks g)) (wrong_size holds octets (used_blocks g))
