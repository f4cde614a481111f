-- `row_text::rows::letter_length` meets its contract. Assumes nothing.
use borrow.Author.Rules.{rules}
use Rattle.row_text.proofs.rows.letter_length.Goals as goal

pub returns-then-asked : goal.returns-then-asked
returns-then-asked c = (rw c.if-asked.true, search rules)

pub returns : goal.returns
returns c = (rw c.if-asked.false, search rules)
