-- `flag::read_recurs` meets its contract. Assumes nothing.
use Rattle.flag.proofs.Leaf.{recurs-none, recurs-some}
use Rattle.flag.proofs.read_recurs.Goals as goal

pub returns-then-left-eq0 : goal.returns-then-left-eq0
returns-then-left-eq0 c = rw (recurs-none _ c.if-left-eq0.true) c.read_must.ensures

pub returns : goal.returns
returns c = rw (recurs-some _ c.if-left-eq0.false) c.read_flag.ensures
