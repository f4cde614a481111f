-- `transitions::release_row` meets its contract. Assumes nothing.
use Rattle.std.specs.Prelude.{Ok, Err}
use Prim.Native.Nat.{ℕ, ◌-◌}
use mathlib.Core.Path.{◌≡◌, refl, sym, ap, subst, ◌∙◌}
use mathlib.Core.List.{List}
use native.Mathlib.Omega.{arith}
use lib.Dec.{eqb}
use Rattle.codec.specs.Verdict.{Verdict, fine}
use Rattle.cells.specs.Cells.{removed_at}
use Rattle.calls.specs.Operations.{release}
use Rattle.order.specs.Values.{key_of}
use Rattle.table_octets.specs.Table.{key_in, table_in}
use Rattle.codec.proofs.Compose.{handed}
use Rattle.arguments.specs.Arguments.{named}
use Rattle.arguments.specs.Told.{pending_no, answer_says, answer_place}
use Rattle.transitions.specs.Octets.{counted}
use Rattle.transitions.specs.Transition.{Transition}
use Rattle.transitions.proofs.Outcomes.{told}
use Rattle.transitions.proofs.Tables.{early, release-refused, release-there, release-changed}
use Rattle.transitions.proofs.release_row.Goals as goal
use Rattle.transitions.proofs.release_row.Goals.{In-Ok, In_default}

-- a row stands at the place that is gone on with, and none where the call is refused
held : (c : In-Ok) → c.in_ok-place.place ≡ Ok c.in-Ok.row
held c = cc

missing : (c : In_default) → c.in_ok-place.place ≡ Err c.in_default.field-0
missing c = cc

pub returns-in_err-place : goal.returns-in_err-place
returns-in_err-place c = rw (handed _ c.in_err-place.field-0.0 c.from_residual.ensures.1) (early c.args.t.now c.requires.0 _ (answer_says c.args.said) _ c.in_err-place.ensures.0 c.in_err-place.ensures.1, c.in_err-place.ensures.2)

pub remove_row-requires : goal.remove_row-requires
remove_row-requires c =
    let q = release-there c.args.t.now c.requires.0 (key_in c.args.key.now) (Ok c.in-Ok.row) (λ w. rw (held (goal.at.remove_row-requires c).In-Ok) at c.in_ok-place.ensures.2) (answer_says c.args.said) fine (told _ _ c.in_ok-place.ensures.0 c.in_ok-place.ensures.1 0) refl in
    let e = c.row_count-count.ensures in
    (c.requires.0, omega (arith, q.0, e), omega (arith, q.1, e))

pub returns-in_default : goal.returns-in_default
unfolding pending_no
returns-in_default c =
    let e = c.refusal.ensures.0 in
    (release-refused c.args.t.now c.requires.0 (key_in c.args.key.now) (Err c.in_default.field-0) (λ w. rw (missing (goal.at.returns-in_default c).In_default) at c.in_ok-place.ensures.2) (answer_says c.args.said) _ (e ∙ told _ _ c.in_ok-place.ensures.0 c.in_ok-place.ensures.1 26) (ap (λ (v : Verdict). eqb v.number 0) e), c.refusal.ensures.1)

pub returns : goal.returns
unfolding answer_says answer_place
returns c =
    let e : c.remove_row.new.t ≡ counted ((table_in c.args.t.now).count - 1) (removed_at 1592 (table_in c.args.t.now).count c.in-Ok.row c.args.t.now) = c.remove_row.ensures ∙ ap (λ (n : ℕ). counted (n - 1) (removed_at 1592 n c.in-Ok.row c.args.t.now)) c.row_count-count.ensures in (
      subst (λ (u : List ℕ). Transition (named (answer_says c.args.said) (release (key_of (key_in c.args.key.now)))) c.args.t.now fine u) (sym e)
          (release-changed c.args.t.now c.requires.0 (key_in c.args.key.now) (Ok c.in-Ok.row) (λ w. rw (held (goal.at.returns c).In-Ok) at c.in_ok-place.ensures.2) (answer_says c.args.said) fine (told _ _ c.in_ok-place.ensures.0 c.in_ok-place.ensures.1 0) refl),
      refl,
    )
