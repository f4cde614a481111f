-- `rules::order::wrong_body` meets its contract. Assumes nothing.
use mathlib.Core.Path.{refl}
use native.Mathlib.Omega.{arith}
use Rattle.codec.specs.Refusals.{finding_says}
use Rattle.rules.specs.Ranks.{told_of}
use Rattle.rules.proofs.Firsts.{told_none}
use Rattle.rules.proofs.order.wrong_body.Goals as goal
use Rattle.rules.proofs.order.wrong_body.Goals.{in-0, in-1}

pub returns-in_default : goal.returns-in_default
unfolding finding_says
returns-in_default c = told_none _ _ _ (omega (arith, c.in_default))

pub returns : goal.returns
unfolding finding_says told_of
returns c =
    elim c.match-found.branch [
      | in-0 w ↦ rw (w.fault-is, w.in-0.is) refl
      | in-1 w ↦ rw (w.fault-is, w.in-1.is) refl
    ]
