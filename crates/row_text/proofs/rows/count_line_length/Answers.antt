-- `row_text::rows::count_line_length` meets its contract. Assumes nothing.
use borrow.Author.Rules.{rules}
use Rattle.row_text.proofs.Texts.{count-line-length}
use Rattle.row_text.proofs.rows.count_line_length.Goals as goal

pub returns : goal.returns
returns c = let e = count-line-length c.args.n in search rules
