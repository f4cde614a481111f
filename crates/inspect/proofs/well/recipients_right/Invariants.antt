-- `inspect::well::recipients_right` meets its contract. The invariant: the recipients so far are fine and in order, and the last of them is at hand. Assumes nothing.
use Rattle.cells.specs.Cells.{many}
use Rattle.order.specs.Values.{address_of, by_address}
use Rattle.table.specs.WellFormed.{recipient_fine}
use Rattle.table_octets.specs.Table.{recipient_in}
use Rattle.inspect.proofs.Tests.{Lined}
use Rattle.inspect.proofs.Entries.{Before}
use Rattle.inspect.proofs.well.recipients_right.Given as goal

abbrev pub invariant-loop-i : goal.invariant-loop-i
invariant-loop-i l = Lined (recipient_fine l.asked) by_address (λ x. address_of x.address) l.count (many recipient_in 92 16 l.list) l.i × Before 92 l.list l.i l.last
