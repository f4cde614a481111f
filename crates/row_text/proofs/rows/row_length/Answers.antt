-- `row_text::rows::row_length` meets its contract. Assumes nothing.
use borrow.Author.Rules.{rules}
use Rattle.table_octets.specs.Table.{row_in}
use Rattle.row_text.proofs.Texts.{row-length}
use Rattle.row_text.proofs.rows.row_length.Goals as goal

pub returns : goal.returns
unfolding row_in
returns c = let e = row-length (row_in c.args.x.now) _ _ c.load_requests-asked.ensures c.load_word-count.ensures in search rules
