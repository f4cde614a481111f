-- The blocks looked at once, one after the other, for the rules and the sizes. Assumes nothing.
use Prim.Native.Nat.{ℕ, ◌+◌, ◌<◌, ◌≤◌, min}
use mathlib.Core.Path.{◌≡◌, refl, ap, ◌∙◌}
use mathlib.Core.Bool.{Bool, true, false, ◌&&◌}
use mathlib.Core.List.{List, [], ◌∷◌, map}
use lib.ListN.{length, take, get_or}
use lib.Dec.{eqb, lit<}
use borrow.Author.Tests.{leb-true, leb-false}
use native.Mathlib.Omega.{arith}
use Rattle.codec.specs.Answer.{pick}
use Rattle.codec.specs.Verdict.{plain, fine, first_of}
use Rattle.header.specs.Order.{of_each, of_whole, over, in_order}
use Rattle.header.specs.Rules.{rules, used_blocks}
use Rattle.header.specs.Sizes.{total, shares, has_body, none_needless, size_rules, wrong_size, judgement}
use Rattle.header.specs.declared.Block.{Block}
use Rattle.header.specs.declared.Blocks.{Blocks}
use Rattle.header.specs.declared.Setting.{Setting}
use Rattle.header.proofs.Kept.{rules-numbered}
use Rattle.rules.specs.Ranks.{whole_rank}
use Rattle.rules.specs.Sees.{share_of, alone_of, owned_rules, body_rules, Sees, Unseen, concluded}
use Rattle.rules.specs.declared.seen.Seen.{Seen}
use Rattle.rules.proofs.Over.{take-used}
use Rattle.rules.proofs.Firsts.{Sought, sought-none, sought-more, sought-all}
use Rattle.rules.proofs.Shares.{Taken, sums, taken_none, taken_more, taken-short, taken-all, shares_of}

-- a test of everything that goes on past its failure: while it holds, P; once it fails, the whole fails
pub record Still (P : Type 0) (whole holds : Bool) : Type 0 where
  pub held : holds ≡ true → P
  pub lost : holds ≡ false → false ≡ whole

module _ {P : Type 0} {whole : Bool} where
  pub still-none : P → Still P whole true
  still-none p = record { held = λ e. p; lost = λ e. cc }

  pub still-more : {Q : Type 0} (a b : Bool) → Still P whole a → (P → b ≡ true → Q) → (P → b ≡ false → false ≡ whole) → Still Q whole (a && b)
  still-more true b s f g = record { held = λ e. f (s.held refl) e; lost = λ e. g (s.held refl) e }
  still-more false b s f g = record { held = λ e. let z : ◌≡◌ {A = ℕ} 0 1 = cc in absurd (omega arith); lost = λ e. s.lost refl }

  pub still-all : (a b : Bool) → Still P whole a → (P → b ≡ whole) → a && b ≡ whole
  still-all true b s f = f (s.held refl)
  still-all false b s f = s.lost refl

pub record Looked (x : Setting) (alone octets n : ℕ) (l : List Block) (f : Seen) (i : ℕ) : Type 0 where
  pub rule : Sought (rules x) n l f.rule.rank f.rule.block.0 i
  pub body : Sought (body_rules alone) n l f.body.rank f.body.block.0 i
  pub sum : Still (Taken alone octets n l f.left.0 i) (sums (map (share_of alone) (take n l)) octets) f.fits

module _ (x : Setting) (alone octets n : ℕ) (l : List Block) (whole : length l ≡ 16) (most : n ≤ 16) where
  pub looked-none : (f : Seen) → Unseen x octets f → Looked x alone octets n l f 0
  unfolding whole_rank
  looked-none f u =
      record {
        rule = sought-none (rules x) n l _ _ u.rule.0 u.rule.1;
        body = sought-none (body_rules alone) n l _ _ u.body.0 u.body.1;
        sum = rw u.fits (still-none (taken_none alone octets n l _ u.left));
      }

  pub looked-more : (f r : Seen) (i : ℕ) → Looked x alone octets n l f i → (d : Block) → i < n → Sees x alone (i + 1) (get_or l i d) f r → Looked x alone octets n l r (i + 1)
  looked-more f r i s d k e =
      record {
        rule = sought-more (rules x) n l _ _ i s.rule d (omega arith) k _ _ e.rule.0 e.rule.1;
        body = sought-more (body_rules alone) n l _ _ i s.body d (omega arith) k _ _ e.body.0 e.body.1;
        sum =
            rw (e.fits, e.left)
            (still-more f.fits _ s.sum
            (λ p h. taken_more alone octets n l _ i p d (omega arith) k (leb-true _ _ h))
            (λ p h. taken-short alone octets n l _ i p d (omega arith) k (leb-false _ _ h)));
      }

-- a rule on the record alone says nothing of a block
over-whole : {A : Type 0} (m : ℕ) (b : Bool) (n : ℕ) (bs : List A) → over (of_whole m b) n bs ≡ fine
unfolding over
over-whole m b n [] = refl
over-whole m b n (y ∷ bs) = over-whole m b (n + 1) bs

-- a rule on what f makes of a block
over-along : {A B : Type 0} (f : A → B) (m : ℕ) (each : B → Bool) (n : ℕ) (bs : List A) → over (of_each m (λ b. each (f b))) n bs ≡ over (of_each m each) n (map f bs)
unfolding over
over-along f m each n [] = refl
over-along f m each n (y ∷ bs) = rw (over-along f m each (n + 1) bs)

bodies-are : (alone : ℕ) (bs : List Block) → in_order (body_rules alone) bs ≡ in_order owned_rules (map (share_of alone) bs)
unfolding in_order
bodies-are alone bs = rw (over-along (share_of alone) 53 has_body 1 bs, over-along (share_of alone) 54 none_needless 1 bs)

sizes-are : (holds sums : Bool) (xs : List (Block × ℕ)) → first_of (pick holds fine (plain 51)) (first_of (pick sums fine (plain 52)) (in_order owned_rules xs)) ≡ in_order (size_rules holds sums) xs
unfolding in_order first_of
sizes-are holds sums xs = rw (over-whole 51 holds 1 xs, over-whole 52 sums 1 xs)

-- all blocks looked at
module _ (x : Setting) (g : Blocks) (alone octets n : ℕ) (whole : length g.list ≡ 16) (used : n ≡ min g.count 16) (owner : alone ≡ alone_of n octets) (f : Seen) (i : ℕ) (s : Looked x alone octets n g.list f i) (past : n ≤ i) where
  used-are : take n g.list ≡ used_blocks g
  used-are = ap (λ (k : ℕ). take k g.list) used ∙ take-used g.count g.list whole

  pub looked-all : (holds : Bool) → concluded holds f ≡ judgement x holds octets g
  unfolding concluded judgement wrong_size
  looked-all holds =
      let xs : map (share_of alone) (take n g.list) ≡ shares octets (used_blocks g) = shares_of g octets alone n whole used owner in
      let t : f.fits && eqb f.left.0 0 ≡ eqb (total (shares octets (used_blocks g))) octets = still-all f.fits _ s.sum (λ p. taken-all alone octets n g.list _ i p past) ∙ ap (λ (z : List (Block × ℕ)). sums z octets) xs in
      let r = sought-all (rules x) n g.list _ _ i s.rule (rules-numbered x) past ∙ ap (in_order (rules x)) used-are in
      let b = sought-all (body_rules alone) n g.list _ _ i s.body (lit< tt, (lit< tt, tt)) past ∙ bodies-are alone (take n g.list) ∙ ap (in_order owned_rules) xs in
      rw (r, t, b) (ap (first_of (in_order (rules x) (used_blocks g))) (sizes-are holds _ (shares octets (used_blocks g))))
