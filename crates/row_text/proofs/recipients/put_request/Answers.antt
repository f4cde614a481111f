-- `row_text::recipients::put_request` meets its contract. Assumes nothing.
use borrow.Author.Rules.{rules}
use mathlib.Core.Path.{ap}
use lib.ListN.{length}
use Rattle.cells.specs.Cells.{word_in}
use Rattle.table.specs.Rows.{code_of}
use Rattle.row_text.proofs.Composing.{octet-puts, same-puts, nothing-puts}
use Rattle.row_text.proofs.Texts.{asked-request, unasked-request}
use Rattle.row_text.proofs.recipients.put_request.Goals as goal

pub put_octet-at-requires : goal.put_octet-at-requires
put_octet-at-requires c = let e = ap length (asked-request c.args.asked c.args.letter (code_of (word_in c.args.x.now)) c.if-asked.true) in search rules

pub put_octet-at-requires-then-asked : goal.put_octet-at-requires-then-asked
put_octet-at-requires-then-asked c = let e = ap length (asked-request c.args.asked c.args.letter (code_of (word_in c.args.x.now)) c.if-asked.true) in search rules

pub put_octet-at-requires-then-asked-2 : goal.put_octet-at-requires-then-asked-2
put_octet-at-requires-then-asked-2 c = let e = ap length (asked-request c.args.asked c.args.letter (code_of (word_in c.args.x.now)) c.if-asked.true) in search rules

pub put_code-requires : goal.put_code-requires
put_code-requires c = let e = ap length (asked-request c.args.asked c.args.letter (code_of (word_in c.args.x.now)) c.if-asked.true) in rw c.load_word-code.ensures (search rules)

pub returns-then-asked : goal.returns-then-asked
returns-then-asked c = same-puts (asked-request c.args.asked c.args.letter (code_of (word_in c.args.x.now)) c.if-asked.true) (octet-puts c.put_octet-at.ensures (octet-puts c.put_octet-at-then-asked.ensures (octet-puts c.put_octet-at-then-asked-2.ensures (rw c.load_word-code.ensures at c.put_code.ensures))))

pub returns : goal.returns
returns c = same-puts (unasked-request c.args.asked c.args.letter (code_of (word_in c.args.x.now)) c.if-asked.false) (nothing-puts _ _)
