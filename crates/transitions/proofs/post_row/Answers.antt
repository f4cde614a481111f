-- `transitions::post_row` meets its contract. Assumes nothing.
use Rattle.std.specs.Prelude.{Ok, Err}
use borrow.Author.Tests.{le-leb, lt-leb}
use Prim.Native.Nat.{ℕ, ◌+◌}
use mathlib.Core.Path.{◌≡◌, refl, sym, ap, subst, ◌∙◌}
use mathlib.Core.List.{List, map}
use native.Mathlib.Omega.{arith}
use lib.Dec.{eqb}
use lib.ListN.{length, take}
use Rattle.codec.specs.Verdict.{Verdict, fine}
use Rattle.cells.specs.Cells.{inserted_at}
use Rattle.record_octets.specs.Record.{addresses_in}
use Rattle.calls.specs.Operations.{post}
use Rattle.order.specs.Values.{address_of, key_of}
use Rattle.order.specs.Requests.{ask_of}
use Rattle.order.specs.Calls.{make}
use Rattle.table_octets.specs.Table.{key_in, row_octets, table_in}
use Rattle.table_octets.specs.Image.{key_image, row_image}
use Rattle.table_octets.proofs.Back.{key-long, key-back}
use Rattle.codec.proofs.Compose.{handed}
use Rattle.arguments.specs.Arguments.{named}
use Rattle.arguments.specs.Told.{pending_no, answer_says, answer_place}
use Rattle.transitions.specs.Octets.{counted}
use Rattle.transitions.specs.Transition.{Transition}
use Rattle.transitions.proofs.Outcomes.{told-held, told-full, told-done}
use Rattle.transitions.proofs.Tables.{early, post-refused, post-there, post-changed}
use Rattle.transitions.proofs.post_row.Goals as goal
use Rattle.transitions.proofs.post_row.Goals.{In-Err, In_default, Start}

-- no row stands at the place that is gone on with, and one where the call is refused
free : (c : In-Err) → c.in_ok-place.place ≡ Err c.in-Err.at
free c = cc

taken : (c : In_default) → c.in_ok-place.place ≡ Ok c.in_default.field-0
taken c = cc

-- the key is clean
key-112 : (c : Start) → length c.args.key.now ≡ 112
key-112 c = ap (length {A = ℕ}) c.requires.1 ∙ key-long (key_image (key_of (key_in c.args.key.now))) c.requires.2

clean : (c : Start) → key_image (key_of (key_in c.args.key.now)) ≡ key_in c.args.key.now
clean c = sym (ap key_in c.requires.1 ∙ key-back (key_image (key_of (key_in c.args.key.now))) c.requires.2)

pub sought-requires : goal.sought-requires
sought-requires c = (c.requires.0, key-112 (goal.at.sought-requires c).Start, c.requires.4)

pub returns-in_err-place : goal.returns-in_err-place
returns-in_err-place c = rw (handed _ c.in_err-place.field-0.0 c.from_residual.ensures.1) (early c.args.t.now c.requires.0 _ (answer_says c.args.said) _ c.in_err-place.ensures.0 c.in_err-place.ensures.1, c.in_err-place.ensures.2)

pub returns : goal.returns
unfolding answer_says answer_place
returns c =
    let to = addresses_in c.args.to.now in
    let n = (table_in c.args.t.now).count in
    let f = answer_says c.args.said in
    let row = row_octets (row_image (key_of (key_in c.args.key.now), make (ask_of c.args.asked) (map address_of (take to.count to.list)))) in
    let e : c.put_row.new.t ≡ counted (n + 1) (inserted_at 1592 n c.in-Err.at row c.args.t.now) = c.put_row.ensures.0 ∙ ap (λ (m : ℕ). counted (m + 1) (inserted_at 1592 m c.in-Err.at row c.args.t.now)) c.row_count-count.ensures in (
      subst (λ (u : List ℕ). Transition (named f (post (key_of (key_in c.args.key.now)) (make (ask_of c.args.asked) (map address_of (take to.count to.list))))) c.args.t.now fine u) (sym e)
          (post-changed c.args.t.now c.requires.0 (key_in c.args.key.now) (Err c.in-Err.at) (λ w. rw (free (goal.at.returns c).In-Err) at c.in_ok-place.ensures.2) c.args.asked to f c.requires.5 fine (told-done _ _ c.in_ok-place.ensures.0 c.in_ok-place.ensures.1 _ (lt-leb 32 _ (omega (arith, c.if-count-ge32.false, c.row_count-count.ensures)))) refl (clean (goal.at.returns c).Start) c.put_row.ensures.1),
      refl,
    )

pub returns-in_default : goal.returns-in_default
unfolding pending_no
returns-in_default c =
    let e = c.refusal.ensures.0 in
    (post-refused c.args.t.now c.requires.0 (key_in c.args.key.now) (Ok c.in_default.field-0) (λ w. rw (taken (goal.at.returns-in_default c).In_default) at c.in_ok-place.ensures.2) c.args.asked (addresses_in c.args.to.now) (answer_says c.args.said) c.requires.5 _ (e ∙ told-held _ _ c.in_ok-place.ensures.0 c.in_ok-place.ensures.1 _) (ap (λ (v : Verdict). eqb v.number 0) e), c.refusal.ensures.1)

pub returns-then-count-ge32 : goal.returns-then-count-ge32
unfolding pending_no
returns-then-count-ge32 c =
    let e = c.refusal-then-count-ge32.ensures.0 in
    (post-refused c.args.t.now c.requires.0 (key_in c.args.key.now) (Err c.in-Err.at) (λ w. rw (free (goal.at.returns-then-count-ge32 c).In-Err) at c.in_ok-place.ensures.2) c.args.asked (addresses_in c.args.to.now) (answer_says c.args.said) c.requires.5 _ (e ∙ told-full _ _ c.in_ok-place.ensures.0 c.in_ok-place.ensures.1 _ (le-leb 32 _ (omega (arith, c.if-count-ge32.true, c.row_count-count.ensures)))) (ap (λ (v : Verdict). eqb v.number 0) e), c.refusal-then-count-ge32.ensures.1)

pub put_row-requires : goal.put_row-requires
put_row-requires c =
    let e = c.row_count-count.ensures in
    let q = post-there c.args.t.now c.requires.0 (key_in c.args.key.now) (Err c.in-Err.at) (λ w. rw (free (goal.at.put_row-requires c).In-Err) at c.in_ok-place.ensures.2) c.args.asked (addresses_in c.args.to.now) (answer_says c.args.said) c.requires.5 fine (told-done _ _ c.in_ok-place.ensures.0 c.in_ok-place.ensures.1 _ (lt-leb 32 _ (omega (arith, c.if-count-ge32.false, e)))) refl in
    (c.requires.0, omega (arith, q.1, e), omega (arith, q.2, e), c.requires.1, c.requires.2, c.requires.3, q.0)
