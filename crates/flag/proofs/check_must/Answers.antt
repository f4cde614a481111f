-- `flag::check_must` meets its contract. Assumes nothing.
use Rattle.codec.specs.Codec.{tested, flag, first}
use Rattle.codec.specs.Refusals.{check_no}
use Rattle.flag.proofs.Leaf.{same-not, same-so}
use Rattle.flag.proofs.check_must.Goals as goal

pub returns-then-x-b : goal.returns-then-x-b
unfolding tested flag first check_no
returns-then-x-b c = rw (same-not _ _ c.if-x-b.true)

pub returns : goal.returns
unfolding tested flag first check_no
returns c = rw (same-so _ _ c.if-x-b.false)
