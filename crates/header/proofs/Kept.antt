-- A list of rules of which none is broken is kept by every block, rule by rule. Assumes nothing.
use Prim.Native.Nat.{ℕ, zero, suc, ◌+◌, ◌<◌}
use mathlib.Core.Path.{◌≡◌, refl}
use mathlib.Core.Bool.{Bool, true, false}
use mathlib.Core.List.{List, [], ◌∷◌}
use lib.ListN.{length, get_or}
use lib.Dec.{lit<}
use native.Mathlib.Omega.{arith}
use Rattle.codec.specs.Answer.{pick}
use Rattle.codec.specs.Verdict.{plain, fine}
use Rattle.codec.proofs.Verdicts.{first_fine}
use Rattle.header.specs.Order.{Rule, over, in_order}
use Rattle.header.specs.Rules.{rules}
use Rattle.header.specs.declared.Setting.{Setting}

-- every rule has a number
abbrev pub Numbered : {A : Type 0} → List (Rule A) → Type 0
Numbered [] = Unit {0}
Numbered (r ∷ rs) = (0 < r.number) × Numbered rs

pub rules-numbered : (x : Setting) → Numbered (rules x)
rules-numbered x = (lit< tt, (lit< tt, (lit< tt, (lit< tt, (lit< tt, (lit< tt, (lit< tt, (lit< tt, (lit< tt, tt)))))))))

-- what stands for a rule behind the last
abbrev pub any_rule : {A : Type 0} → Rule A
any_rule = record { number = 0; whole = true; each = λ b. true }

over-kept : {A : Type 0} (r : Rule A) → 0 < r.number → (n : ℕ) (bs : List A) → (over r n bs).number ≡ 0 → (i : ℕ) (d : A) → i < length bs → r.each (get_or bs i d) ≡ true
unfolding over
over-kept r p n [] e i d l = absurd (omega arith)
over-kept r p n (b ∷ bs) e i d l = go (r.each b) refl i l (λ j q m. over-kept r p (n + 1) bs q j d m)
  where
    go : (t : Bool) → r.each b ≡ t → (j : ℕ) → j < length (b ∷ bs) → ((j : ℕ) → (over r (n + 1) bs).number ≡ 0 → j < length bs → r.each (get_or bs j d) ≡ true) → r.each (get_or (b ∷ bs) j d) ≡ true
    go false q j m more = let z : r.number ≡ 0 = rw q at e in absurd (omega arith)
    go true q zero m more = q
    go true q (suc j) m more = more j (rw q at e) (omega arith)

pub kept_at : {A : Type 0} (rs : List (Rule A)) → Numbered rs → (bs : List A) → (in_order rs bs).number ≡ 0 → (j : ℕ) → j < length rs → (i : ℕ) (d : A) → i < length bs → (get_or rs j any_rule).each (get_or bs i d) ≡ true
unfolding in_order
kept_at [] p bs e j m i d l = absurd (omega arith)
kept_at (r ∷ rs) p bs e zero m i d l = over-kept r p.0 1 bs (first_fine (over r 1 bs) _ (first_fine (pick r.whole fine (plain r.number)) _ e).1).0 i d l
kept_at (r ∷ rs) p bs e (suc j) m i d l = kept_at rs p.1 bs (first_fine (over r 1 bs) _ (first_fine (pick r.whole fine (plain r.number)) _ e).1).1 j (omega arith) i d l
