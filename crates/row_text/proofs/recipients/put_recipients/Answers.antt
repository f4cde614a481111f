-- `row_text::recipients::put_recipients` meets its contract. The invariant: the lines so far are put. Assumes nothing.
use borrow.Author.Rules.{rules}
use mathlib.Core.Path.{ap, sym}
use lib.ListN.{length}
use native.Mathlib.Omega.{arith}
use Rattle.cells.specs.Cells.{many}
use Rattle.cells.proofs.Lists.{many-count, many-entry}
use Rattle.table.specs.Zero.{no_recipient}
use Rattle.table_octets.specs.Table.{recipient_in}
use Rattle.row_text.specs.Parts.{line_of}
use Rattle.row_text.proofs.Composing.{same-puts}
use Rattle.row_text.proofs.Texts.{line-lines}
use Rattle.row_text.proofs.Lines.{putting-none, putting-room, putting-more, putting-all}
use Rattle.row_text.proofs.recipients.put_recipients.Goals as goal

pub loop-i-init : goal.loop-i-init
loop-i-init c = putting-none (line_of _) _ _ _ _

pub put_recipient-place-requires : goal.put_recipient-place-requires
put_recipient-place-requires c = let e = ap length (line-lines c.args.asked (many recipient_in 92 16 c.args.list.now) c.args.count c.used-n.result (many-count recipient_in 92 16 _) (search rules)) in (rw (many-entry recipient_in 92 16 c.loop-i.i c.args.list.now _ no_recipient c.entry.ensures.0 (omega arith)) (putting-room _ _ _ _ _ _ _ _ c.loop-i.invariant no_recipient 16 (many-count recipient_in 92 16 _) (search rules) (search rules) (search rules)), c.entry.ensures.1)

pub loop-i-preserved : goal.loop-i-preserved
loop-i-preserved c = putting-more _ _ _ _ _ _ _ _ c.loop-i.invariant no_recipient 16 (many-count recipient_in 92 16 _) (search rules) (search rules) _ _ (search rules) (same-puts (ap (line_of c.args.asked) (sym (many-entry recipient_in 92 16 c.loop-i.i c.args.list.now _ no_recipient c.entry.ensures.0 (omega arith)))) c.put_recipient-place.ensures)

pub returns : goal.returns
returns c = same-puts (line-lines c.args.asked (many recipient_in 92 16 c.args.list.now) c.args.count c.used-n.result (many-count recipient_in 92 16 _) (search rules)) (putting-all _ _ _ _ _ _ _ _ c.loop-i.invariant (search rules))
