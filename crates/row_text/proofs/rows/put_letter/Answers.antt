-- `row_text::rows::put_letter` meets its contract. Assumes nothing.
use Rattle.row_text.proofs.Composing.{present-puts, absent-puts}
use Rattle.row_text.proofs.rows.put_letter.Goals as goal

pub put_octet-requires : goal.put_octet-requires
put_octet-requires c = rw c.if-asked.true at c.requires

pub returns-then-asked : goal.returns-then-asked
returns-then-asked c = present-puts c.if-asked.true c.put_octet.ensures

pub returns : goal.returns
returns c = absent-puts _ _ _ c.if-asked.false
