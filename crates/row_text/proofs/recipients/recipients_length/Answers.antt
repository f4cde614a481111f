-- `row_text::recipients::recipients_length` meets its contract. The invariant: the lines so far are measured. Assumes nothing.
use borrow.Author.Rules.{rules}
use mathlib.Core.Path.{ap, ◌∙◌}
use lib.ListN.{length}
use native.Mathlib.Omega.{arith}
use Rattle.cells.specs.Cells.{many}
use Rattle.cells.proofs.Lists.{many-count, many-entry}
use Rattle.table.specs.Zero.{no_recipient}
use Rattle.table.specs.declared.Recipient.{Recipient}
use Rattle.table_octets.specs.Table.{recipient_in}
use Rattle.row_text.specs.Parts.{line_of}
use Rattle.row_text.proofs.Texts.{line-lines}
use Rattle.row_text.proofs.Lines.{measured-none, measured-more, measured-all}
use Rattle.row_text.proofs.recipients.recipients_length.Goals as goal

pub loop-i-init : goal.loop-i-init
loop-i-init c = measured-none (line_of _) _ _ 236

pub loop-i-preserved : goal.loop-i-preserved
loop-i-preserved c = measured-more _ _ _ _ _ _ c.loop-i.invariant no_recipient 16 (many-count recipient_in 92 16 _) (search rules) (search rules) _ (c.recipient_length-one.ensures.0 ∙ ap (λ (r : Recipient). length (line_of c.args.asked r)) (many-entry recipient_in 92 16 c.loop-i.i c.args.list.now _ no_recipient c.entry.ensures.0 (omega arith))) c.recipient_length-one.ensures.1

pub returns : goal.returns
returns c = let e = ap length (line-lines c.args.asked (many recipient_in 92 16 c.args.list.now) c.args.count c.used-n.result (many-count recipient_in 92 16 _) (search rules)) in let m = measured-all _ _ _ _ _ _ c.loop-i.invariant (search rules) in search rules
