-- `row_text::recipients::recipients_length` meets its contract. The invariant: the lines so far are measured. Assumes nothing.
use Rattle.cells.specs.Cells.{many}
use Rattle.table_octets.specs.Table.{recipient_in}
use Rattle.row_text.specs.Parts.{line_of}
use Rattle.row_text.proofs.Lines.{Measured}
use Rattle.row_text.proofs.recipients.recipients_length.Given as goal

abbrev pub invariant-loop-i : goal.invariant-loop-i
invariant-loop-i l = Measured (line_of l.asked) (many recipient_in 92 16 l.list) l.n 236 l.i l.size.0
