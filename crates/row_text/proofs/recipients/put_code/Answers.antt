-- `row_text::recipients::put_code` meets its contract. Assumes nothing.
use borrow.Author.Rules.{rules}
use mathlib.Core.Path.{ap}
use lib.ListN.{length}
use Rattle.row_text.proofs.Composing.{same-puts}
use Rattle.row_text.proofs.Texts.{open_code, given-code}
use Rattle.row_text.proofs.recipients.put_code.Goals as goal

pub put_octet-requires : goal.put_octet-requires
put_octet-requires c = let e = ap length (open_code c.args.code (search rules)) in search rules

pub returns-then-code-eq0 : goal.returns-then-code-eq0
returns-then-code-eq0 c = same-puts (open_code c.args.code (search rules)) c.put_octet.ensures

pub put_decimal-requires : goal.put_decimal-requires
put_decimal-requires c = let e = ap length (given-code c.args.code c.if-code-eq0.false) in search rules

pub returns : goal.returns
returns c = same-puts (given-code c.args.code c.if-code-eq0.false) c.put_decimal.ensures
