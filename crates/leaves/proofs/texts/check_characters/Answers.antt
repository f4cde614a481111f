-- `leaves::texts::check_characters` meets its contract. The invariant: the highest of the characters so far stands for all of them. Assumes nothing.
use borrow.Author.Rules.{rules}
use borrow.Author.Tests.{le-leb, lt-leb}
use mathlib.Core.Path.{◌∙◌}
use native.Mathlib.Omega.{arith}
use Rattle.std.proofs.lemmas.Grind.{common_steps}
use Rattle.codec.specs.Refusals.{check_no}
use Rattle.text.proofs.Checking.{passed_none, passed-more, passed-all, check-long, check-none, check-bad, check-good}
use Rattle.leaves.proofs.texts.check_characters.Goals as goal
use Rattle.leaves.proofs.texts.check_characters.Goals.{then-most-len-via-then-most-len, then-most-len-via-else-most-len+then-len-eq0}

pub returns-then-most-len : goal.returns-then-most-len
unfolding check_no
returns-then-most-len c =
    elim c.then-most-len.branch [
      | then-most-len-via-then-most-len w ↦ check-long _ _ c.requires.1 (search rules)
      | then-most-len-via-else-most-len+then-len-eq0 w ↦ check-none _ _ c.requires.1 (omega arith) (search rules)
    ]

pub loop-i-init : goal.loop-i-init
loop-i-init c = passed_none _ _ _

pub loop-i-preserved : goal.loop-i-preserved
loop-i-preserved c = passed-more _ _ _ _ _ c.loop-i.invariant c.requires.1 (omega arith) (omega arith) (omega arith) _ (grind (arith, common_steps, c.max-highest.ensures))

pub returns-then-highest-gt126 : goal.returns-then-highest-gt126
unfolding check_no
returns-then-highest-gt126 c = check-bad _ _ c.requires.1 (omega arith) (passed-all _ _ _ _ _ c.loop-i.invariant c.requires.1 (omega arith) (omega arith) (omega arith) ∙ lt-leb _ 126 c.if-highest-gt126.true)

pub returns : goal.returns
unfolding check_no
returns c = check-good _ _ c.requires.1 (omega arith) (search rules) (passed-all _ _ _ _ _ c.loop-i.invariant c.requires.1 (omega arith) (omega arith) (omega arith) ∙ le-leb _ 126 c.if-highest-gt126.false)
