-- Rules and sizes do not look at unused cells: a record and the same with its unused cells 0 are judged alike. Assumes nothing.
use Prim.Native.Nat.{ℕ, zero, suc, ◌+◌, ◌-◌}
use mathlib.Core.Path.{◌≡◌, refl, ap, ap₂}
use mathlib.Core.Bool.{Bool, true, false, not, ◌||◌}
use mathlib.Core.List.{List, [], ◌∷◌, ◌++◌, map}
use lib.ListN.{length, take, replicate}
use lib.Dec.{eqb}
use native.Mathlib.Omega.{arith}
use Rattle.codec.specs.Answer.{pick}
use Rattle.codec.specs.Codec.{Codec, number, flag, nothing, present, viewed, ◌then_by◌, ◌closed_by◌}
use Rattle.codec.specs.Lists.{listed, cells}
use Rattle.optional.specs.Optionals.{optional_number}
use Rattle.header.specs.Table.{optional_identity, format, handling, optional_stamp, optional_dtg, requests, optional_requests, times, compliance, response, optional_response, block, blocks, front, originator}
use Rattle.header.specs.Zero.{no_requests, no_response, no_block}
use Rattle.header.specs.Order.{Rule, over, in_order}
use Rattle.header.specs.Rules.{◌⇒◌, rule_a, rule_b, rule_c, rule_d, rule_e, rule_f, rule_g, rule_h, rule_i, rules, used_blocks, setting_of}
use Rattle.header.specs.Sizes.{size_of, shares, total, has_body, none_needless, size_rules, wrong_size, judgement}
use Rattle.header.specs.Same.{header_norm}
use Rattle.header.specs.declared.Setting.{Setting}
use Rattle.header.specs.declared.Block.{Block}
use Rattle.header.specs.declared.Blocks.{Blocks}
use Rattle.header.specs.declared.Header.{Header}

listed-norm : {A : Type 0} (x : A) (c : Codec A) (n : ℕ) (l : List A) → (listed x c n).norm l ≡ map c.norm l
unfolding listed viewed
listed-norm x c zero l = refl
listed-norm x c (suc n) l = refl

-- the used cells stay the used cells
used : {A : Type 0} (f : A → A) (k : ℕ) (l : List A) (x : A) → take k (map f (take k l) ++ replicate (length l - k) x) ≡ map f (take k l)
used f zero l x = refl
used f (suc k) [] x = let e : 0 - suc k ≡ 0 = omega arith in rw e
used {A = A} f (suc k) (y ∷ l) x = let e : suc (length l) - suc k ≡ length l - k = omega arith in rw e (ap (λ (t : List A). f y ∷ t) (used f k l x))

-- rules that do not tell a block from what f makes of it
module _ {A : Type 0} (f : A → A) where
  abbrev Alike : List (Rule A) → Type 0
  Alike [] = Unit {0}
  Alike (r ∷ rs) = ((b : A) → r.each (f b) ≡ r.each b) × Alike rs

  over-norm : (r : Rule A) → ((b : A) → r.each (f b) ≡ r.each b) → (n : ℕ) (bs : List A) → over r n (map f bs) ≡ over r n bs
  unfolding over
  over-norm r h n [] = refl
  over-norm r h n (b ∷ bs) = rw (h b, over-norm r h (n + 1) bs)

  order-norm : (rs : List (Rule A)) → Alike rs → (bs : List A) → in_order rs (map f bs) ≡ in_order rs bs
  unfolding in_order
  order-norm [] h bs = refl
  order-norm (r ∷ rs) h bs = rw (over-norm r h.0 1 bs, order-norm rs h.1 bs)

-- what holds of the blocks, in every version
module _ (version : ℕ) where
  pub used-norm : (g : Blocks) → used_blocks ((blocks version).norm g) ≡ map (block version).norm (used_blocks g)
  unfolding blocks viewed cells
  used-norm g = rw (listed-norm no_block (block version) 15 (take g.count g.list)) (used (block version).norm g.count g.list no_block)

  -- each rule, of one block
  module _ (x : Setting) (b : Block) where
    norm-a : rule_a x ((block version).norm b) ≡ rule_a x b
    unfolding rule_a block viewed ◌then_by◌ times optional_requests flag
    norm-a = refl

    norm-b : rule_b x ((block version).norm b) ≡ rule_b x b
    unfolding rule_b block viewed ◌then_by◌ ◌closed_by◌ times optional_requests optional_dtg optional_response flag
    norm-b = refl

    norm-c : rule_c x ((block version).norm b) ≡ rule_c x b
    unfolding rule_c block viewed ◌then_by◌ format optional_identity flag number
    norm-c = refl

    norm-d : rule_d x ((block version).norm b) ≡ rule_d x b
    unfolding rule_d block viewed ◌then_by◌ format optional_identity flag number
    norm-d = refl

    norm-e : rule_e x ((block version).norm b) ≡ rule_e x b
    unfolding rule_e block viewed ◌then_by◌ optional_response flag
    norm-e = refl

    norm-f : rule_f x ((block version).norm b) ≡ rule_f x b
    unfolding rule_f block viewed ◌then_by◌ handling optional_number flag
    norm-f = refl

  -- a rule on a group's contents looks at them only where the group is there
  norm-g : (x : Setting) (b : Block) → rule_g x ((block version).norm b) ≡ rule_g x b
  unfolding rule_g block viewed ◌then_by◌ optional_response response compliance optional_number flag present nothing number
  norm-g x b =
      let z = b.response.response in
      elim b.response.present as
      (λ p. (p ⇒ not (eqb ((present no_response response p).norm z).compliance.code 6) ⇒ not ((present no_response response p).norm z).compliance.cantco.present) ≡ (p ⇒ not (eqb z.compliance.code 6) ⇒ not z.compliance.cantco.present))
      [ true ↦ refl | false ↦ refl ]

  norm-h : (x : Setting) (b : Block) → rule_h x ((block version).norm b) ≡ rule_h x b
  unfolding rule_h block viewed ◌then_by◌ optional_response response compliance optional_number flag present nothing number
  norm-h x b =
      let z = b.response.response in
      elim b.response.present as
      (λ p. (p ⇒ not (eqb ((present no_response response p).norm z).compliance.code 2) ⇒ not ((present no_response response p).norm z).compliance.cantpro.present) ≡ (p ⇒ not (eqb z.compliance.code 2) ⇒ not z.compliance.cantpro.present))
      [ true ↦ refl | false ↦ refl ]

  norm-i : (x : Setting) (b : Block) → rule_i x ((block version).norm b) ≡ rule_i x b
  unfolding rule_i block viewed ◌then_by◌ times optional_requests optional_stamp requests flag present nothing
  norm-i x b =
      let z = b.times.requests.requests in
      elim b.times.requests.present as
      (λ p. (p ⇒ (((present no_requests requests p).norm z).machine || ((present no_requests requests p).norm z).acknowledge || ((present no_requests requests p).norm z).reply) ⇒ b.times.origin.present) ≡ (p ⇒ (z.machine || z.acknowledge || z.reply) ⇒ b.times.origin.present))
      [ true ↦ refl | false ↦ refl ]

  -- a block's size is there or not
  size-norm : (b : Block) (n : ℕ) → pick ((block version).norm b).handling.size.present ((block version).norm b).handling.size.value n ≡ pick b.handling.size.present b.handling.size.value n
  unfolding block viewed ◌then_by◌ handling optional_number flag present nothing number
  size-norm b n = elim b.handling.size.present as (λ p. pick p ((present 0 (number 20 0 1048575 3) p).norm b.handling.size.value) n ≡ pick p b.handling.size.value n) [ true ↦ refl | false ↦ refl ]

  abbrev cleaned : Block × ℕ → Block × ℕ
  cleaned p = ((block version).norm p.0, p.1)

  sized-norm : (bs : List Block) → map (λ y. (y, size_of y)) (map (block version).norm bs) ≡ map cleaned (map (λ y. (y, size_of y)) bs)
  sized-norm [] = refl
  sized-norm (b ∷ bs) = ap₂ (λ (n : ℕ) (l : List (Block × ℕ)). ((block version).norm b, n) ∷ l) (size-norm b 0) (sized-norm bs)

  shares-norm : (octets : ℕ) (bs : List Block) → shares octets (map (block version).norm bs) ≡ map cleaned (shares octets bs)
  unfolding shares
  shares-norm octets [] = refl
  shares-norm octets (b ∷ []) = ap (λ (n : ℕ). ((block version).norm b, n) ∷ []) (size-norm b octets)
  shares-norm octets (b ∷ c ∷ bs) = sized-norm (b ∷ c ∷ bs)

  total-norm : (l : List (Block × ℕ)) → total (map cleaned l) ≡ total l
  unfolding total
  total-norm [] = refl
  total-norm (x ∷ xs) = ap (λ (n : ℕ). x.1 + n) (total-norm xs)

  body-norm : (p : Block × ℕ) → has_body (cleaned p) ≡ has_body p
  unfolding has_body block viewed ◌then_by◌ optional_response format flag number
  body-norm p = refl

  needless-norm : (p : Block × ℕ) → none_needless (cleaned p) ≡ none_needless p
  unfolding none_needless block viewed ◌then_by◌ optional_response flag
  needless-norm p = refl

  sizes-norm : (holds : Bool) (octets : ℕ) (bs : List Block) → wrong_size holds octets (map (block version).norm bs) ≡ wrong_size holds octets bs
  unfolding wrong_size
  sizes-norm holds octets bs =
      rw (shares-norm octets bs, total-norm (shares octets bs))
      (order-norm cleaned (size_rules holds (eqb (total (shares octets bs)) octets)) (λ p. refl, (λ p. refl, (body-norm, (needless-norm, tt)))) (shares octets bs))

  rules-norm : (x : Setting) (bs : List Block) → in_order (rules x) (map (block version).norm bs) ≡ in_order (rules x) bs
  rules-norm x bs =
      order-norm (block version).norm (rules x) (norm-a x, (norm-b x, (norm-c x, (norm-d x, (norm-e x, (norm-f x, (norm-g x, (norm-h x, (norm-i x, tt))))))))) bs

  pub judgement-norm : (x : Setting) (holds : Bool) (octets : ℕ) (g : Blocks) → judgement x holds octets ((blocks version).norm g) ≡ judgement x holds octets g
  unfolding judgement
  judgement-norm x holds octets g = rw (used-norm g, rules-norm x (used_blocks g), sizes-norm holds octets (used_blocks g))

pub same-setting : (h : Header) → setting_of (header_norm h) ≡ setting_of h
unfolding header_norm front blocks viewed cells ◌then_by◌ originator optional_number flag
same-setting h = refl
