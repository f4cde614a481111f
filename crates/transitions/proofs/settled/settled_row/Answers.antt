-- `transitions::settled::settled_row` meets its contract. Assumes nothing.
use borrow.Author.Rules.{rules}
use Prim.Native.Nat.{ℕ, ◌+◌, ◌-◌, ◌*◌, ◌≤◌}
use mathlib.Core.Path.{◌≡◌, refl, sym, ap, ◌∙◌}
use mathlib.Core.Bool.{Bool, true, false, cond}
use native.Mathlib.Omega.{arith}
use Rattle.codec.specs.Verdict.{plain}
use Rattle.record_octets.specs.Record.{address_in}
use Rattle.table.proofs.Parts.{fine-row}
use Rattle.table_octets.specs.Table.{row_in}
use Rattle.arguments.specs.Told.{pending_no, answer_says, answer_place}
use Rattle.transitions.proofs.Receiving.{sought, stranger, answered}
use Rattle.transitions.proofs.settled.settled_row.Goals as goal
use Rattle.transitions.proofs.settled.settled_row.Goals.{After-load_requests-asked, After-load_word-count}

-- the row's count
few : (c : After-load_word-count) → c.load_word-count.result ≤ 16
unfolding row_in
few c = let m : (row_in c.args.r.now).count ≤ 16 = (fine-row (row_in c.args.r.now) c.requires.2).most in omega (arith, c.load_word-count.ensures)

asks : (c : After-load_requests-asked) → c.load_requests-asked.result ≡ (row_in c.args.r.now).asked
unfolding row_in
asks c = c.load_requests-asked.ensures

lent : (n : ℕ) → n + 92 - n ≡ 92
lent n = omega arith

pub find_recipient-place-requires : goal.find_recipient-place-requires
find_recipient-place-requires c = (search rules, few (goal.at.find_recipient-place-requires c).After-load_word-count, c.requires.1)

pub returns-in_default : goal.returns-in_default
unfolding pending_no
returns-in_default c = let e = stranger c.args.r.now c.requires.0 c.requires.2 (address_in c.args.from.now) c.args.code c.in_default.field-0 (sought c.args.r.now _ _ _ false _ c.load_word-count.ensures refl c.in_default.ensures.2) in (c.refusal.ensures.0 ∙ ap plain e.0, c.refusal.ensures.1, e.1)

pub slice_bounds-settle-end : goal.slice_bounds-settle-end
slice_bounds-settle-end c = let k = few (goal.at.slice_bounds-settle-end c).After-load_word-count in let h = c.in-Ok.ensures.1 refl in let l = c.requires.0 in omega arith

pub returns-then-not-settle : goal.returns-then-not-settle
unfolding pending_no
returns-then-not-settle c =
    let p = sought c.args.r.now _ _ _ true _ c.load_word-count.ensures refl c.in-Ok.ensures.2 in
    let e = answered c.args.r.now c.requires.0 c.requires.2 (address_in c.args.from.now) c.args.code c.in-Ok.at p c.load_requests-asked.result (asks (goal.at.returns-then-not-settle c).After-load_requests-asked) _ (lent (116 + c.in-Ok.at * 92)) c.settle.result c.settle.new.x c.settle.ensures.0 c.settle.ensures.1 in
    (c.refusal-then-not-settle.ensures.0 ∙ ap plain (sym (e.0 ∙ ap (λ (b : Bool). cond b 0 28) (c.if-not-settle.true))), c.refusal-then-not-settle.ensures.1, e.1)

pub returns : goal.returns
unfolding answer_says answer_place
returns c =
    let p = sought c.args.r.now _ _ _ true _ c.load_word-count.ensures refl c.in-Ok.ensures.2 in
    let e = answered c.args.r.now c.requires.0 c.requires.2 (address_in c.args.from.now) c.args.code c.in-Ok.at p c.load_requests-asked.result (asks (goal.at.returns c).After-load_requests-asked) _ (lent (116 + c.in-Ok.at * 92)) c.settle.result c.settle.new.x c.settle.ensures.0 c.settle.ensures.1 in
    (ap plain (sym (e.0 ∙ ap (λ (b : Bool). cond b 0 28) (c.if-not-settle.false))), refl, e.1)
