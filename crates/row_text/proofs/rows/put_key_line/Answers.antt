-- `row_text::rows::put_key_line` meets its contract. Assumes nothing.
use borrow.Author.Rules.{rules}
use Rattle.table_octets.specs.Table.{key_in}
use Rattle.row_text.proofs.Composing.{then-puts, same-puts}
use Rattle.row_text.proofs.Texts.{key-line-parts, key-line-length}
use Rattle.row_text.proofs.rows.put_key_line.Goals as goal

pub put_key-at-requires : goal.put_key-at-requires
put_key-at-requires c = let e = key-line-length c.args.asked (key_in c.args.k.now) in search rules

pub put_octets-at-requires : goal.put_octets-at-requires
put_octets-at-requires c = let e = key-line-length c.args.asked (key_in c.args.k.now) in search rules

pub put_letters-at-requires : goal.put_letters-at-requires
put_letters-at-requires c = let e = key-line-length c.args.asked (key_in c.args.k.now) in search rules

pub put_octet-requires : goal.put_octet-requires
put_octet-requires c = let e = key-line-length c.args.asked (key_in c.args.k.now) in search rules

pub returns : goal.returns
returns c = same-puts (key-line-parts c.args.asked (key_in c.args.k.now)) (then-puts (then-puts (then-puts c.put_key-at.ensures c.put_octets-at.ensures) c.put_letters-at.ensures) c.put_octet.ensures)
