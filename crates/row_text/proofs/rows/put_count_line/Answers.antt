-- `row_text::rows::put_count_line` meets its contract. Assumes nothing.
use borrow.Author.Rules.{rules}
use Rattle.row_text.specs.Text.{count_line}
use Rattle.row_text.proofs.Composing.{then-puts}
use Rattle.row_text.proofs.Texts.{count-line-length}
use Rattle.row_text.proofs.rows.put_count_line.Goals as goal

pub put_octets-at-requires : goal.put_octets-at-requires
put_octets-at-requires c = let e = count-line-length c.args.n in search rules

pub put_decimal-at-requires : goal.put_decimal-at-requires
put_decimal-at-requires c = let e = count-line-length c.args.n in search rules

pub put_octet-requires : goal.put_octet-requires
put_octet-requires c = let e = count-line-length c.args.n in search rules

pub returns : goal.returns
unfolding count_line
returns c = then-puts (then-puts c.put_octets-at.ensures c.put_decimal-at.ensures) c.put_octet.ensures
