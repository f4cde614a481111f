-- `rules::seen::conclude` meets its contract. Assumes nothing.
use mathlib.Core.Path.{◌≡◌, refl, ap, sym, ◌∙◌}
use mathlib.Core.Bool.{Bool, true, false, ◌&&◌}
use lib.Dec.{eqb}
use borrow.Author.Rules.{rules}
use borrow.Author.Tests.{eq-eqb, ne_eqb}
use native.Mathlib.Omega.{arith}
use Rattle.std.specs.Prelude.{Ok, Err, ⊤}
use Rattle.codec.specs.Refusals.{finding_says}
use Rattle.codec.specs.Verdict.{Verdict, first_of}
use Rattle.codec.specs.declared.BlockFault.{BlockFault}
use Rattle.codec.proofs.Compose.{handed}
use Rattle.codec.proofs.Told.{fault-positive}
use Rattle.codec.proofs.Verdicts.{first-none, first_some}
use Rattle.rules.specs.Sees.{concluded}
use Rattle.rules.proofs.seen.conclude.Goals as goal
use Rattle.rules.proofs.seen.conclude.Goals.{then-not-f-via-then-not-f, then-not-f-via-else-not-f+then-f-ne0}

-- nothing is found, or something
fine-says : (v w u : Verdict) → finding_says {A = ⊤} (Ok tt) ≡ v → u ≡ w → u ≡ first_of v w
unfolding finding_says
fine-says v w u e i = i ∙ sym (first-none v w (ap (λ (y : Verdict). y.number) (sym e)))

bad-says : (b : BlockFault) (v w : Verdict) → finding_says {A = ⊤} (Err b) ≡ v → finding_says {A = ⊤} (Err b) ≡ first_of v w
unfolding finding_says
bad-says b v w e = e ∙ sym (first_some v w (omega (arith, fault-positive b.fault, ap (λ (u : Verdict). u.number) e)))

and_false : (b : Bool) → b && false ≡ false
and_false true = refl
and_false false = refl

pub returns-in_err-broken_rule : goal.returns-in_err-broken_rule
unfolding concluded
returns-in_err-broken_rule c = rw (handed _ c.in_err-broken_rule.field-0.0 c.from_residual.ensures.1) (bad-says _ _ _ c.in_err-broken_rule.ensures)

pub returns-then-not-holds : goal.returns-then-not-holds
unfolding concluded finding_says first_of
returns-then-not-holds c = fine-says _ _ _ c.in_ok-broken_rule.ensures (rw c.if-not-holds.true refl)

pub returns-then-not-f : goal.returns-then-not-f
unfolding concluded finding_says first_of
returns-then-not-f c =
    fine-says _ _ _ c.in_ok-broken_rule.ensures
    (elim c.then-not-f.branch [
      | then-not-f-via-then-not-f w ↦
          let t : c.args.f.fits ≡ false = search rules in
          rw (c.if-not-holds.false, t) refl
      | then-not-f-via-else-not-f+then-f-ne0 w ↦
          let t : eqb c.args.f.left.0 0 ≡ false = ne_eqb _ 0 (search rules) in
          rw (c.if-not-holds.false, t, and_false) refl
    ])

pub returns : goal.returns
unfolding concluded first_of
returns c =
    let t : c.args.f.fits ≡ true = search rules in
    let z : eqb c.args.f.left.0 0 ≡ true = eq-eqb _ 0 (search rules) in
    fine-says _ _ _ c.in_ok-broken_rule.ensures (rw (c.if-not-holds.false, t, z) c.wrong_body.ensures)
