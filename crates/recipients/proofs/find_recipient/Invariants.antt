-- `recipients::find_recipient` meets its contract. The invariant: the addresses of the recipients so far come before the one that is sought. Assumes nothing.
use Rattle.cells.specs.Cells.{many}
use Rattle.record_octets.specs.Record.{address_in}
use Rattle.order.specs.Values.{address_of, by_address}
use Rattle.table.proofs.Seeking.{Seeking}
use Rattle.table_octets.specs.Table.{recipient_in}
use Rattle.recipients.proofs.find_recipient.Given as goal

abbrev pub invariant-loop-i : goal.invariant-loop-i
invariant-loop-i l = Seeking by_address (λ x. address_of x.address) (address_of (address_in l.a)) l.count (many recipient_in 92 16 l.s) l.i
