-- `row_text::addresses::put_name` meets its contract. Assumes nothing.
use Rattle.row_text.proofs.Composing.{then-puts, octet-puts}
use Rattle.row_text.proofs.addresses.put_name.Goals as goal

pub returns : goal.returns
returns c = then-puts (octet-puts c.put_octet-at.ensures c.put_characters-at.ensures) c.put_octet.ensures
