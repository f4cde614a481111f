-- `inspect::further` meets its contract. Assumes nothing.
use borrow.Author.Tests.{lt-ltb, le-ltb}
use Rattle.order.specs.Values.{comparison_of}
use Rattle.table_octets.specs.Table.{row_in}
use Rattle.inspect.specs.Places.{further}
use Rattle.inspect.proofs.further.Goals as goal

pub returns-then-index_of-i : goal.returns-then-index_of-i
unfolding further
returns-then-index_of-i c = rw (← c.index_of.ensures, lt-ltb _ _ c.if-index_of-i.true)

pub returns-in-Less : goal.returns-in-Less
unfolding further comparison_of row_in
returns-in-Less c = rw (← c.index_of.ensures, le-ltb _ _ c.if-index_of-i.false, ← c.in-Less.ensures)

pub returns-in-Equal : goal.returns-in-Equal
unfolding further comparison_of row_in
returns-in-Equal c = rw (← c.index_of.ensures, le-ltb _ _ c.if-index_of-i.false, ← c.in-Equal.ensures)

pub returns-in-Greater : goal.returns-in-Greater
unfolding further comparison_of row_in
returns-in-Greater c = rw (← c.index_of.ensures, le-ltb _ _ c.if-index_of-i.false, ← c.in-Greater.ensures)
