-- `inspect::inspect` meets its contract. Assumes nothing.
use native.Mathlib.Omega.{arith}
use Rattle.table_octets.specs.Table.{table_in}
use Rattle.inspect.proofs.Looked.{over}
use Rattle.inspect.proofs.inspect.Goals as goal

pub returns-then-count-gt32 : goal.returns-then-count-gt32
unfolding table_in
returns-then-count-gt32 c = (over _ c.load_word-count.result c.load_word-count.ensures (omega (arith, c.if-count-gt32.true)), tt)

pub returns : goal.returns
unfolding table_in
returns c = rw (← c.load_word-count.ensures) c.look.ensures
