-- `row_text::rows::put_extension` meets its contract. Assumes nothing.
use borrow.Author.Rules.{rules}
use mathlib.Core.Path.{ap}
use lib.ListN.{length}
use Rattle.row_text.proofs.Composing.{octet-puts, same-puts}
use Rattle.row_text.proofs.Texts.{some-extension, no-extension}
use Rattle.row_text.proofs.rows.put_extension.Goals as goal

pub put_decimal-requires : goal.put_decimal-requires
put_decimal-requires c = let e = ap length (some-extension c.args.x c.if-x.true) in search rules

pub returns-then-x : goal.returns-then-x
returns-then-x c = octet-puts c.put_octet-at.ensures (same-puts (some-extension c.args.x c.if-x.true) c.put_decimal.ensures)

pub put_octet-requires : goal.put_octet-requires
put_octet-requires c = let e = ap length (no-extension c.args.x c.if-x.false) in search rules

pub returns : goal.returns
returns c = octet-puts c.put_octet-at.ensures (same-puts (no-extension c.args.x c.if-x.false) c.put_octet.ensures)
