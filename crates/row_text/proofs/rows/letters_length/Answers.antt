-- `row_text::rows::letters_length` meets its contract. Assumes nothing.
use borrow.Author.Rules.{rules}
use Rattle.row_text.proofs.Texts.{letters-length}
use Rattle.row_text.proofs.rows.letters_length.Goals as goal

pub returns : goal.returns
returns c = let e = letters-length c.args.asked in search rules
