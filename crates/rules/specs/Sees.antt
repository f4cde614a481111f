-- What one look at a block adds to what the blocks before it have shown.
use Rattle.std.specs.Prelude.{ℕ, ◌-◌, ◌≡◌, Bool, true, ◌&&◌, List, [], ◌∷◌, leb, eqb}
use Rattle.codec.specs.Answer.{pick}
use Rattle.codec.specs.Verdict.{Verdict, plain, fine, first_of}
use Rattle.header.specs.Order.{Rule, of_each}
use Rattle.header.specs.Rules.{rules}
use Rattle.header.specs.Sizes.{has_body, none_needless}
use Rattle.header.specs.declared.Block.{Block}
use Rattle.header.specs.declared.Setting.{Setting}
use Rattle.rules.specs.Ranks.{rank, whole_rank, rule_numbers, body_numbers, told_of, better_rank, better_block}
use Rattle.rules.specs.declared.order.Broken.{Broken}
use Rattle.rules.specs.declared.seen.Seen.{Seen}

-- what a block owns, `alone` where it has no size
abbrev pub share : ℕ → Block → ℕ
share alone b = pick b.handling.size.present b.handling.size.value alone

abbrev pub share_of : ℕ → Block → Block × ℕ
share_of alone b = (b, share alone b)

-- what a block without a size owns: all there is, where it is the only block
abbrev pub alone_of : ℕ → ℕ → ℕ
alone_of count octets = pick (eqb count 1) octets 0

-- 53 and 54, of a block and what it owns
abbrev pub owned_rules : List (Rule (Block × ℕ))
owned_rules = of_each 53 has_body ∷ of_each 54 none_needless ∷ []

-- and of a block alone
abbrev pub body_rules : ℕ → List (Rule Block)
body_rules alone = of_each 53 (λ b. has_body (share_of alone b)) ∷ of_each 54 (λ b. none_needless (share_of alone b)) ∷ []

-- the n-th block, b, behind what was found first
abbrev pub Finds : {A : Type 0} → List (Rule A) → ℕ → A → Broken → Broken → Type 0
Finds rs n b f r = (r.rank ≡ better_rank (rank rs b) f.rank) × (r.block.0 ≡ better_block (rank rs b) f.rank n f.block.0)

pub record Sees (x : Setting) (alone n : ℕ) (b : Block) (f r : Seen) : Type 0 where
  pub rule : Finds (rules x) n b f.rule r.rule
  pub body : Finds (body_rules alone) n b f.body r.body
  pub fits : r.fits ≡ f.fits && leb (share alone b) f.left.0
  pub left : r.left.0 ≡ f.left.0 - share alone b

-- before the first block
pub record Unseen (x : Setting) (octets : ℕ) (r : Seen) : Type 0 where
  pub rule : (r.rule.rank ≡ whole_rank (rules x)) × (r.rule.block.0 ≡ 0)
  pub body : (r.body.rank ≡ 2) × (r.body.block.0 ≡ 0)
  pub fits : r.fits ≡ true
  pub left : r.left.0 ≡ octets

-- what is told behind the last block: the rules, then 51 to 54
unfoldable pub concluded : Bool → Seen → Verdict
concluded holds f =
    first_of (told_of rule_numbers f.rule.rank f.rule.block.0)
    (first_of (pick holds fine (plain 51))
    (first_of (pick (f.fits && eqb f.left.0 0) fine (plain 52)) (told_of body_numbers f.body.rank f.body.block.0)))
