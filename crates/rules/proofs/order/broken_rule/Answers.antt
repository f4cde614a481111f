-- `rules::order::broken_rule` meets its contract. Assumes nothing.
use mathlib.Core.Path.{refl}
use native.Mathlib.Omega.{arith}
use Rattle.codec.specs.Refusals.{finding_says}
use Rattle.rules.specs.Ranks.{told_of}
use Rattle.rules.proofs.Firsts.{told_none}
use Rattle.rules.proofs.order.broken_rule.Goals as goal
use Rattle.rules.proofs.order.broken_rule.Goals.{in-0, in-1, in-2, in-3, in-4, in-5, in-6, in-7, in-8}

pub returns-in_default : goal.returns-in_default
unfolding finding_says
returns-in_default c = told_none _ _ _ (omega (arith, c.in_default))

pub returns : goal.returns
unfolding finding_says told_of
returns c =
    elim c.match-found.branch [
      | in-0 w ↦ rw (w.fault-is, w.in-0.is) refl
      | in-1 w ↦ rw (w.fault-is, w.in-1.is) refl
      | in-2 w ↦ rw (w.fault-is, w.in-2.is) refl
      | in-3 w ↦ rw (w.fault-is, w.in-3.is) refl
      | in-4 w ↦ rw (w.fault-is, w.in-4.is) refl
      | in-5 w ↦ rw (w.fault-is, w.in-5.is) refl
      | in-6 w ↦ rw (w.fault-is, w.in-6.is) refl
      | in-7 w ↦ rw (w.fault-is, w.in-7.is) refl
      | in-8 w ↦ rw (w.fault-is, w.in-8.is) refl
    ]
