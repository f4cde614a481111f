-- `row_text::rows::put_row` meets its contract. Assumes nothing.
use borrow.Author.Rules.{rules}
use Rattle.table_octets.specs.Table.{row_in}
use Rattle.row_text.proofs.Composing.{then-puts, same-puts}
use Rattle.row_text.proofs.Texts.{row-parts, row-length}
use Rattle.row_text.proofs.rows.put_row.Goals as goal

pub put_key_line-at-requires : goal.put_key_line-at-requires
unfolding row_in
put_key_line-at-requires c = let e = row-length (row_in c.args.x.now) _ _ c.load_requests-asked.ensures c.load_word-count.ensures in search rules

pub put_recipients-requires : goal.put_recipients-requires
unfolding row_in
put_recipients-requires c = let e = row-length (row_in c.args.x.now) _ _ c.load_requests-asked.ensures c.load_word-count.ensures in search rules

pub returns : goal.returns
unfolding row_in
returns c = same-puts (row-parts (row_in c.args.x.now) _ _ c.load_requests-asked.ensures c.load_word-count.ensures) (then-puts c.put_key_line-at.ensures c.put_recipients.ensures)
