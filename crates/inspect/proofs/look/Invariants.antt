-- `inspect::look` meets its contract. The invariant: the rows so far are fine and in order, the last of them is at hand, and the key's place among them. Assumes nothing.
use Rattle.cells.specs.Cells.{many}
use Rattle.order.specs.Values.{key_of, by_key}
use Rattle.table.specs.WellFormed.{row_fine}
use Rattle.table_octets.specs.Table.{key_in, row_in}
use Rattle.inspect.proofs.Tests.{Lined}
use Rattle.inspect.proofs.Entries.{Before}
use Rattle.inspect.proofs.Sought.{Sought}
use Rattle.inspect.proofs.look.Given as goal

abbrev pub invariant-loop-i : goal.invariant-loop-i
invariant-loop-i l = Lined row_fine by_key (λ r. key_of r.key) l.n (many row_in 1592 32 l.rows) l.i × Before 1592 l.rows l.i l.last × Sought by_key (λ r. key_of r.key) (key_of (key_in l.key)) l.n (many row_in 1592 32 l.rows) l.i l.place
