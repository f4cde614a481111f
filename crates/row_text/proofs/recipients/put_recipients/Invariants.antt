-- `row_text::recipients::put_recipients` meets its contract. The invariant: the lines so far are put. Assumes nothing.
use Rattle.cells.specs.Cells.{many}
use Rattle.table_octets.specs.Table.{recipient_in}
use Rattle.row_text.specs.Parts.{line_of}
use Rattle.row_text.proofs.Lines.{Putting}
use Rattle.row_text.proofs.recipients.put_recipients.Given as goal

abbrev pub invariant-loop-i : goal.invariant-loop-i
invariant-loop-i l = Putting (line_of l.asked) (many recipient_in 92 16 l.list) l.n l.initial.out l.initial.place.0 l.out l.i l.place.0
