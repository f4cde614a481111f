-- `row_text::rows::put_three` meets its contract. Assumes nothing.
use Rattle.row_text.proofs.Composing.{then-puts, octet-puts}
use Rattle.row_text.proofs.rows.put_three.Goals as goal

pub returns : goal.returns
returns c = then-puts (then-puts c.put_two_digits-at.ensures (octet-puts c.put_octet-at.ensures c.put_two_digits-at-2.ensures)) (octet-puts c.put_octet-at-2.ensures c.put_two_digits.ensures)
