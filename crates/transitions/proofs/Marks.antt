-- A recipient's cells are fine exactly where its marks are well; what a receipt, a new row and an answered row keep. Assumes nothing.
use Prim.Native.Nat.{ℕ, zero, suc, ◌<◌, ◌≤◌}
use mathlib.Core.Path.{◌≡◌, refl, ap, sym, subst, ◌∙◌}
use mathlib.Core.Logic.{◌⊎◌, inl, inr, ⊎_elim}
use mathlib.Core.Bool.{Bool, true, false, not, ◌&&◌, ◌||◌}
use mathlib.Core.List.{List, ◌∷◌, map}
use mathlib.Core.Option.{Option, none, some}
use lib.ListN.{length, take, drop, get_or, length-map, length-take}
use lib.Dec.{T, eqb}
use borrow.Author.Tests.{eqb-true, eq-eqb, ne_eqb}
use native.Mathlib.Omega.{arith}
use Rattle.codec.specs.Codec.{viewed}
use Rattle.codec.proofs.ListEnds.{whole-array, count_most, count-some}
use Rattle.rules.proofs.Over.{used_step}
use Rattle.header.specs.Zero.{no_address}
use Rattle.header.specs.Table.{address, addresses}
use Rattle.header.specs.declared.Addresses.{Addresses}
use Rattle.header.specs.Rules.{◌⇒◌, all}
use Rattle.header.specs.declared.Requests.{Requests}
use Rattle.calls.specs.Keyed.{put, sort, InOrder}
use Rattle.order.specs.Values.{Address, by_address, key_fault}
use Rattle.order.specs.Requests.{Mark, answered_by, settle, Fit, Shut, WellMarked, ask_of}
use Rattle.order.proofs.Orders.{by-address}
use Rattle.calls.proofs.Keyed.{sorted, put_some, sort-in-order}
use Rattle.order.proofs.Requests.{settle-well}
use Rattle.table.specs.Rows.{code_of, mark_of, recipient_of, used_recipients}
use Rattle.table.specs.WellFormed.{fits, unanswered, recipient_fine, row_fine}
use Rattle.table.specs.declared.Recipient.{Recipient}
use Rattle.table.specs.declared.Row.{Row}
use Rattle.table.proofs.Parts.{and_both, row-fine}
use Rattle.table.proofs.InOrder.{recipients-increasing}

-- ---- one code

shown : (b : Bool) → T b → b ≡ true
shown true t = refl
shown false t = absurd t

no_code : (n : ℕ) → n ≡ 0 → code_of n ≡ none
unfolding code_of
no_code n e = rw (eq-eqb n 0 e)

a-code : (n : ℕ) → 0 < n → code_of n ≡ some n
unfolding code_of
a-code n p = rw (ne_eqb n 0 (λ e. absurd (omega arith)))

-- by whether there is a code
by_code {ℓ} : {R : Type ℓ} (n : ℕ) → (n ≡ 0 → R) → (0 < n → R) → R
by_code zero f g = f refl
by_code (suc n) f g = g (omega arith)

fit_of : (a : Bool) (ans : ℕ → Bool) (n : ℕ) → fits a ans n ≡ true → Fit a ans (code_of n)
unfolding Fit
fit_of a ans n e =
    by_code n
    (λ z. rw (no_code n z) tt)
    (λ p. let h : a && ans n ≡ true = rw (ne_eqb n 0 (λ z. absurd (omega arith))) at e in rw (a-code n p, h) tt)

of-fit : (a : Bool) (ans : ℕ → Bool) (n : ℕ) → Fit a ans (code_of n) → fits a ans n ≡ true
unfolding Fit
of-fit a ans n f =
    by_code n
    (λ z. rw (eq-eqb n 0 z))
    (λ p. let h : T (a && ans n) = rw (a-code n p) at f in rw (ne_eqb n 0 (λ z. absurd (omega arith))) (shown (a && ans n) h))

shut-of : (a : Bool) (n : ℕ) → unanswered a n ≡ false → Shut a (code_of n)
unfolding Shut
shut-of true n e = by_code n (λ z. let h : true ≡ false = sym (eq-eqb n 0 z) ∙ e in let o : ◌≡◌ {A = ℕ} 0 1 = cc in absurd (omega arith)) (λ p. rw (a-code n p) tt)
shut-of false n e = by_code n (λ z. rw (no_code n z) tt) (λ p. rw (a-code n p) tt)

of-shut : (a : Bool) (n : ℕ) → Shut a (code_of n) → unanswered a n ≡ false
unfolding Shut
of-shut true n s = by_code n (λ z. let h : ⊥ = rw (no_code n z) at s in absurd h) (λ p. ne_eqb n 0 (λ z. absurd (omega arith)))
of-shut false n s = refl

code-two : (n : ℕ) → code_of n ≡ some 2 → eqb n 2 ≡ true
code-two n e =
    by_code n
    (λ z. let h : ◌≡◌ {A = Option ℕ} none (some 2) = sym (no_code n z) ∙ e in let o : ◌≡◌ {A = ℕ} 0 1 = cc in absurd (omega arith))
    (λ p. let h : some n ≡ some 2 = sym (a-code n p) ∙ e in let o : n ≡ 2 = cc in eq-eqb n 2 o)

two-code : (n : ℕ) → eqb n 2 ≡ true → code_of n ≡ some 2
two-code n e = let o : n ≡ 2 = eqb-true n 2 e in a-code n (omega arith) ∙ ap some o

-- ---- the three codes of a recipient

none_open : (t u v w : Bool) → t ≡ true → (t ⇒ not (u || v || w)) ≡ true → (u ≡ false) × (v ≡ false) × (w ≡ false)
none_open true true v w e h = (cc, cc, cc)
none_open true false true w e h = (cc, cc, cc)
none_open true false false true e h = (cc, cc, cc)
none_open true false false false e h = (refl, refl, refl)
none_open false u v w e h = (cc, cc, cc)

all-shut : (t u v w : Bool) → (t ≡ true → (u ≡ false) × (v ≡ false) × (w ≡ false)) → (t ⇒ not (u || v || w)) ≡ true
all-shut true u v w h = let s = h refl in rw (s.0, s.1, s.2)
all-shut false u v w h = refl

some_of : (p q r : Bool) → (p ≡ true) ⊎ (q ≡ true) ⊎ (r ≡ true) → p || q || r ≡ true
some_of true q r s = refl
some_of false true r s = refl
some_of false false true s = refl
some_of false false false (inl e) = e
some_of false false false (inr (inl e)) = e
some_of false false false (inr (inr e)) = e

of_some : (p q r : Bool) → p || q || r ≡ true → (p ≡ true) ⊎ (q ≡ true) ⊎ (r ≡ true)
of_some true q r e = inl refl
of_some false true r e = inr (inl refl)
of_some false false r e = inr (inr e)

module _ (a : Requests) (x : Recipient) where
  pub recipient-well : recipient_fine a x ≡ true → (address.check x.address ≡ 0) × WellMarked (ask_of a) (mark_of x)
  unfolding recipient_fine ask_of mark_of
  recipient-well e =
      let p = and_both _ _ e in
      let q = and_both _ _ p.0 in
      let r = and_both _ _ q.0 in
      let s = and_both _ _ r.0 in (
        eqb-true _ 0 s.0,
        record {
          machine_fits = fit_of a.machine (λ c. (answered_by c).machine) x.machine s.1;
          acknowledge_fits = fit_of a.acknowledge (λ c. (answered_by c).acknowledge) x.acknowledge r.1;
          reply_fits = fit_of a.reply (λ c. (answered_by c).reply) x.reply q.1;
          two_shuts = λ t.
              let u = none_open (eqb x.machine 2 || eqb x.acknowledge 2 || eqb x.reply 2) (unanswered a.machine x.machine) (unanswered a.acknowledge x.acknowledge) (unanswered a.reply x.reply)
              (some_of (eqb x.machine 2) (eqb x.acknowledge 2) (eqb x.reply 2) (⊎_elim (λ f. inl (code-two x.machine f)) (⊎_elim (λ f. inr (inl (code-two x.acknowledge f))) (λ f. inr (inr (code-two x.reply f)))) t)) p.1 in
              (shut-of a.machine x.machine u.0, shut-of a.acknowledge x.acknowledge u.1, shut-of a.reply x.reply u.2);
        },
      )

  pub well-recipient : address.check x.address ≡ 0 → WellMarked (ask_of a) (mark_of x) → recipient_fine a x ≡ true
  unfolding recipient_fine ask_of mark_of
  well-recipient l w =
      let two : (eqb x.machine 2 || eqb x.acknowledge 2 || eqb x.reply 2) ≡ true → (unanswered a.machine x.machine ≡ false) × (unanswered a.acknowledge x.acknowledge ≡ false) × (unanswered a.reply x.reply ≡ false) =
      λ t.
      let s = w.two_shuts (⊎_elim (λ f. inl (two-code x.machine f)) (⊎_elim (λ f. inr (inl (two-code x.acknowledge f))) (λ f. inr (inr (two-code x.reply f)))) (of_some (eqb x.machine 2) (eqb x.acknowledge 2) (eqb x.reply 2) t)) in
      (of-shut a.machine x.machine s.0, of-shut a.acknowledge x.acknowledge s.1, of-shut a.reply x.reply s.2) in
      rw (eq-eqb (address.check x.address) 0 l, of-fit a.machine (λ c. (answered_by c).machine) x.machine w.machine_fits, of-fit a.acknowledge (λ c. (answered_by c).acknowledge) x.acknowledge w.acknowledge_fits, of-fit a.reply (λ c. (answered_by c).reply) x.reply w.reply_fits)
      (all-shut (eqb x.machine 2 || eqb x.acknowledge 2 || eqb x.reply 2) (unanswered a.machine x.machine) (unanswered a.acknowledge x.acknowledge) (unanswered a.reply x.reply) two)

-- a receipt keeps a recipient fine
pub settled-fine : (a : Requests) (c : ℕ) (x y : Recipient) → recipient_fine a x ≡ true → y.address ≡ x.address → settle (ask_of a) c (mark_of x) ≡ some (mark_of y) → recipient_fine a y ≡ true
settled-fine a c x y f e s =
    let p = recipient-well a x f in
    well-recipient a y (ap (λ z. address.check z) e ∙ p.0) (settle-well (ask_of a) c (mark_of x) (mark_of y) p.1 s)

-- ---- rows

-- a new row: its recipients are a sorted list
pub new-row-fine : (r : Row) (l : List (Address × Mark)) → key_fault r.key ≡ 0 → (r.asked.machine || r.asked.acknowledge || r.asked.reply) ≡ true → 1 ≤ r.count → r.count ≤ 16
    → all (recipient_fine r.asked) (used_recipients r) ≡ true → map recipient_of (used_recipients r) ≡ sort by_address l → row_fine r ≡ true
new-row-fine r l k q least most f e =
    row-fine r (record {
      key = k;
      asked = q;
      least = least;
      most = most;
      recipients = f;
      order = recipients-increasing r (subst (InOrder by_address) (sym e) (sort-in-order by-address l));
    })

-- at least one recipient, where the list is not empty
pub new-row-some : (r : Row) (x : Address × Mark) (l : List (Address × Mark)) → map recipient_of (used_recipients r) ≡ sort by_address (x ∷ l) → 1 ≤ r.count
unfolding sort
new-row-some r x l e =
    let n : length (map recipient_of (used_recipients r)) ≡ _ = length-map (used_recipients r) recipient_of ∙ length-take r.count r.recipients in
    let m : 1 ≤ length (put by_address x.0 (some x.1) (sort by_address l)) = put_some (sorted by-address) x.0 x.1 (sort by_address l) in
    let k : length (map recipient_of (used_recipients r)) ≡ length (put by_address x.0 (some x.1) (sort by_address l)) = ap length e in
    omega arith

-- the addresses of a legal list are at least one
pub some-used : (to : Addresses) → (addresses 15).check to ≡ 0
    → take to.count to.list ≡ get_or to.list 0 no_address ∷ drop 1 (take to.count to.list)
unfolding addresses viewed
some-used to h =
    used_step to.count to.list 0 no_address
    (omega (arith, count_most no_address address 16 15 to.list to.count h, whole-array no_address address 16 15 to.list to.count h))
    (count-some no_address address 16 15 to.list to.count h)
