-- One pass over the blocks finds the first broken rule and the first block that breaks it: the least rank so far, with the block where it was met
-- first. Assumes nothing.
use Prim.Native.Nat.{ℕ, zero, suc, ◌+◌, ◌<◌, ◌≤◌}
use mathlib.Core.Path.{◌≡◌, refl, ap, sym, ◌∙◌}
use mathlib.Core.Bool.{Bool, true, false}
use mathlib.Core.List.{List, [], ◌∷◌}
use lib.ListN.{length, take, drop, get_or}
use lib.Dec.{leb}
use borrow.Author.Tests.{leb-true, leb-false, le-leb, lt-leb}
use native.Mathlib.Omega.{arith}
use Rattle.codec.specs.Answer.{pick}
use Rattle.codec.specs.Verdict.{Verdict, in_block, plain, fine, first_of}
use Rattle.codec.proofs.Verdicts.{first_some}
use Rattle.header.specs.Order.{Rule, over, in_order}
use Rattle.header.proofs.Kept.{Numbered}
use Rattle.rules.specs.Ranks.{rank, whole_rank, numbers_of, told_of, better_rank, better_block}
use Rattle.rules.proofs.Over.{used_step, used-end}

-- behind the last rule
pub told_none : (ms : List ℕ) (k n : ℕ) → length ms ≤ k → fine ≡ told_of ms k n
unfolding told_of
told_none [] k n h = refl
told_none (m ∷ ms) zero n h = absurd (omega arith)
told_none (m ∷ ms) (suc k) n h = told_none ms k n (omega arith)

-- behind a number that is not the one: the numbers of a `match` are passed one by one
pub past : (k n : ℕ) → n ≤ k → (k ≡ n → ⊥) → suc n ≤ k
past k n h e = omega arith

module _ {A : Type 0} where
  -- what is told behind the blocks, of which the first is the i-th, where rank k and block n were found before them
  unfoldable pub passed : List (Rule A) → ℕ → List A → ℕ → ℕ → Verdict
  passed rs i [] k n = told_of (numbers_of rs) k n
  passed rs i (b ∷ bs) k n = passed rs (i + 1) bs (better_rank (rank rs b) k) (better_block (rank rs b) k i n)

  -- nothing comes before the first rule
  settled : (r : Rule A) (rs : List (Rule A)) (i : ℕ) (bs : List A) (n : ℕ) → passed (r ∷ rs) i bs 0 n ≡ in_block n r.number
  unfolding passed told_of
  settled r rs i [] n = refl
  settled r rs i (b ∷ bs) n = rw (lt-leb (suc (rank (r ∷ rs) b)) 0 (omega arith)) (settled r rs (i + 1) bs n)

  module _ (r : Rule A) (rs : List (Rule A)) (h : 0 < r.number) where
    at_block : (i : ℕ) (b : A) (bs : List A) (k n : ℕ) → ((k n : ℕ) → passed (r ∷ rs) (i + 1) bs (suc k) n ≡ first_of (over r (i + 1) bs) (passed rs (i + 1) bs k n)) → (t u : Bool) → r.each b ≡ t → leb (suc (rank rs b)) k ≡ u → passed (r ∷ rs) i (b ∷ bs) (suc k) n ≡ first_of (over r i (b ∷ bs)) (passed rs i (b ∷ bs) k n)
    unfolding passed over rank
    at_block i b bs k n more true true e f = rw (e, f, le-leb (suc (suc (rank rs b))) (suc k) (omega (arith, leb-true (suc (rank rs b)) k f))) (more (rank rs b) i)
    at_block i b bs k n more true false e f = rw (e, f, lt-leb (suc (suc (rank rs b))) (suc k) (omega (arith, leb-false (suc (rank rs b)) k f))) (more k n)
    at_block i b bs k n more false u e f = rw (e, le-leb 1 (suc k) (omega arith)) (settled r rs (i + 1) bs i ∙ sym (first_some (in_block i r.number) _ h))

    first-rule : (i : ℕ) (bs : List A) (k n : ℕ) → passed (r ∷ rs) i bs (suc k) n ≡ first_of (over r i bs) (passed rs i bs k n)
    unfolding passed told_of over first_of
    first-rule i [] k n = refl
    first-rule i (b ∷ bs) k n = at_block i b bs k n (λ k n. first-rule (i + 1) bs k n) (r.each b) (leb (suc (rank rs b)) k) refl refl

    whole-first : (bs : List A) (t : Bool) → passed rs 1 bs (whole_rank rs) 0 ≡ in_order rs bs → passed (r ∷ rs) 1 bs (pick t (suc (whole_rank rs)) 0) 0 ≡ first_of (pick t fine (plain r.number)) (first_of (over r 1 bs) (in_order rs bs))
    unfolding first_of
    whole-first bs true e = first-rule 1 bs (whole_rank rs) 0 ∙ ap (first_of (over r 1 bs)) e
    whole-first bs false e = settled r rs 1 bs 0 ∙ sym (first_some (plain r.number) _ h)

  none : (i : ℕ) (bs : List A) (n : ℕ) → passed [] i bs 0 n ≡ fine
  unfolding passed told_of
  none i [] n = refl
  none i (b ∷ bs) n = rw (lt-leb (suc (rank [] b)) 0 (omega arith)) (none (i + 1) bs n)

  -- all of them, from the first block on
  pub passed-all : (rs : List (Rule A)) → Numbered rs → (bs : List A) → passed rs 1 bs (whole_rank rs) 0 ≡ in_order rs bs
  unfolding in_order whole_rank
  passed-all [] h bs = none 1 bs 0
  passed-all (r ∷ rs) h bs = whole-first r rs h.0 bs r.whole (passed-all rs h.1 bs)

  -- the blocks before i are passed, and the rest is to come
  pub record Sought (rs : List (Rule A)) (n : ℕ) (l : List A) (k at i : ℕ) : Type 0 where
    pub within : i ≤ n
    pub same : passed rs 1 (take n l) (whole_rank rs) 0 ≡ passed rs (i + 1) (drop i (take n l)) k at

  module _ (rs : List (Rule A)) (n : ℕ) (l : List A) where
    pub sought-none : (k at : ℕ) → k ≡ whole_rank rs → at ≡ 0 → Sought rs n l k at 0
    sought-none k at ek ea = rw (ek, ea) (record { within = omega arith; same = refl })

    module _ (k at i : ℕ) (s : Sought rs n l k at i) where
      pub sought-more : (d : A) → n ≤ length l → i < n → (k' at' : ℕ) → k' ≡ better_rank (rank rs (get_or l i d)) k → at' ≡ better_block (rank rs (get_or l i d)) k (i + 1) at → Sought rs n l k' at' (i + 1)
      unfolding passed
      sought-more d fits h k' at' ek ea = rw (ek, ea) (record { within = omega arith; same = s.same ∙ ap (λ (z : List A). passed rs (i + 1) z k at) (used_step n l i d fits h) })

      pub sought-all : Numbered rs → n ≤ i → told_of (numbers_of rs) k at ≡ in_order rs (take n l)
      unfolding passed
      sought-all positive h = sym (s.same ∙ ap (λ (z : List A). passed rs (i + 1) z k at) (used-end n l i h)) ∙ passed-all rs positive (take n l)
