-- `row_text::rows::put_origin` meets its contract. Assumes nothing.
use borrow.Author.Rules.{rules}
use Rattle.table_octets.specs.Table.{key_in}
use Rattle.row_text.proofs.Composing.{then-puts}
use Rattle.row_text.proofs.rows.put_origin.Goals as goal

pub put_address-at-requires : goal.put_address-at-requires
unfolding key_in
put_address-at-requires c = search rules

pub put_dtg-requires : goal.put_dtg-requires
unfolding key_in
put_dtg-requires c = search rules

pub returns : goal.returns
unfolding key_in
returns c = then-puts c.put_address-at.ensures c.put_dtg.ensures
