-- `row_text::recipients::request_length` meets its contract. Assumes nothing.
use borrow.Author.Rules.{rules}
use Rattle.row_text.proofs.recipients.request_length.Goals as goal

pub returns-then-asked : goal.returns-then-asked
returns-then-asked c = rw (c.if-asked.true, ← c.load_word-code.ensures) (search rules)

pub returns : goal.returns
returns c = (rw c.if-asked.false (search rules), search rules)
