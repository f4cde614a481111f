-- `transitions::settle_row` meets its contract. Assumes nothing.
use Rattle.std.specs.Prelude.{Ok, Err}
use borrow.Author.Rules.{rules}
use Prim.Native.Nat.{ℕ, ◌+◌, ◌-◌, ◌*◌, ◌<◌}
use mathlib.Core.Path.{◌≡◌, refl, ap, ◌∙◌}
use native.Mathlib.Omega.{arith}
use lib.Dec.{eqb}
use lib.ListN.{take, drop}
use Rattle.codec.specs.Verdict.{Verdict, fine}
use Rattle.record_octets.specs.Record.{address_in}
use Rattle.table.specs.WellFormed.{row_fine}
use Rattle.table_octets.specs.Table.{key_in, row_in}
use Rattle.codec.proofs.Compose.{handed}
use Rattle.arguments.specs.Told.{pending_no, answer_says}
use Rattle.transitions.proofs.Outcomes.{told}
use Rattle.transitions.proofs.Tables.{early, receipt-refused, receipt-inside, receipt-row-fine, receipt-left}
use Rattle.transitions.proofs.settle_row.Goals as goal
use Rattle.transitions.proofs.settle_row.Goals.{In-Ok, In_default}

-- a row stands at the place that is gone on with, and none where the call is refused
held : (c : In-Ok) → c.in_ok-place.place ≡ Ok c.in-Ok.at
held c = cc

missing : (c : In_default) → c.in_ok-place.place ≡ Err c.in_default.field-0
missing c = cc

lent : (n : ℕ) → n + 1592 - n ≡ 1592
lent n = omega arith

inside : (c : In-Ok) → c.in-Ok.at < 32
inside c = receipt-inside c.args.t.now c.requires.0 (key_in c.args.key.now) (Ok c.in-Ok.at) (λ w. rw (held c) at c.in_ok-place.ensures.2) (address_in c.args.from.now) c.args.code (answer_says c.args.said) fine (told _ _ c.in_ok-place.ensures.0 c.in_ok-place.ensures.1 0) refl

pub returns-in_err-place : goal.returns-in_err-place
returns-in_err-place c = rw (handed _ c.in_err-place.field-0.0 c.from_residual.ensures.1) (early c.args.t.now c.requires.0 _ (answer_says c.args.said) _ c.in_err-place.ensures.0 c.in_err-place.ensures.1, c.in_err-place.ensures.2)

pub returns-in_default : goal.returns-in_default
unfolding pending_no
returns-in_default c =
    let e = c.refusal.ensures.0 in
    (receipt-refused c.args.t.now c.requires.0 (key_in c.args.key.now) (Err c.in_default.field-0) (λ w. rw (missing (goal.at.returns-in_default c).In_default) at c.in_ok-place.ensures.2) (address_in c.args.from.now) c.args.code (answer_says c.args.said) _ (e ∙ told _ _ c.in_ok-place.ensures.0 c.in_ok-place.ensures.1 26) (ap (λ (v : Verdict). eqb v.number 0) e), c.refusal.ensures.1)

pub overflow_mul-start : goal.overflow_mul-start
overflow_mul-start c = let k = inside (goal.at.overflow_mul-start c).In-Ok in search rules

pub overflow_add-end : goal.overflow_add-end
overflow_add-end c = let k = inside (goal.at.overflow_add-end c).In-Ok in search rules

pub slice_bounds-settled_row-end : goal.slice_bounds-settled_row-end
slice_bounds-settled_row-end c = let k = inside (goal.at.slice_bounds-settled_row-end c).In-Ok in let l = c.requires.0 in omega arith

pub settled_row-requires : goal.settled_row-requires
settled_row-requires c = (
  search rules,
  c.requires.2,
  ap (λ (j : ℕ). row_fine (row_in (take j (drop (c.in-Ok.at * 1592) c.args.t.now)))) (lent (c.in-Ok.at * 1592)) ∙ receipt-row-fine c.args.t.now c.requires.0 (key_in c.args.key.now) (Ok c.in-Ok.at) (λ w. rw (held (goal.at.settled_row-requires c).In-Ok) at c.in_ok-place.ensures.2) (address_in c.args.from.now) c.args.code (answer_says c.args.said) fine (told _ _ c.in_ok-place.ensures.0 c.in_ok-place.ensures.1 0) refl,
  c.requires.4 c.in_ok-place.ensures.1,
)

pub returns : goal.returns
returns c = (receipt-left c.args.t.now c.requires.0 (key_in c.args.key.now) (Ok c.in-Ok.at) (λ w. rw (held (goal.at.returns c).In-Ok) at c.in_ok-place.ensures.2) (address_in c.args.from.now) c.args.code (answer_says c.args.said) fine (told _ _ c.in_ok-place.ensures.0 c.in_ok-place.ensures.1 0) refl _ (lent (c.in-Ok.at * 1592)) _ c.settled_row.new.r c.settled_row.ensures.0 c.settled_row.ensures.2, c.settled_row.ensures.1)
