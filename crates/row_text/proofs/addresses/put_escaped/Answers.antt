-- `row_text::addresses::put_escaped` meets its contract. Assumes nothing.
use borrow.Author.Rules.{rules}
use mathlib.Core.Path.{ap}
use lib.ListN.{length}
use Rattle.row_text.proofs.Composing.{same-puts, octet-puts}
use Rattle.row_text.proofs.Texts.{escaped-special, escaped-plain}
use Rattle.row_text.proofs.addresses.put_escaped.Goals as goal

pub put_octet-at-requires : goal.put_octet-at-requires
put_octet-at-requires c = let e = ap length (escaped-special c.args.c _ c.needs_escape.ensures c.if-needs_escape.true) in search rules

pub put_hex_digit-at-requires : goal.put_hex_digit-at-requires
put_hex_digit-at-requires c = let e = ap length (escaped-special c.args.c _ c.needs_escape.ensures c.if-needs_escape.true) in search rules

pub put_hex_digit-requires : goal.put_hex_digit-requires
put_hex_digit-requires c = let e = ap length (escaped-special c.args.c _ c.needs_escape.ensures c.if-needs_escape.true) in search rules

pub returns-then-needs_escape : goal.returns-then-needs_escape
returns-then-needs_escape c = same-puts (escaped-special c.args.c _ c.needs_escape.ensures c.if-needs_escape.true) (octet-puts c.put_octet-at.ensures (octet-puts c.put_hex_digit-at.ensures c.put_hex_digit.ensures))

pub put_octet-requires : goal.put_octet-requires
put_octet-requires c = let e = ap length (escaped-plain c.args.c _ c.needs_escape.ensures c.if-needs_escape.false) in search rules

pub returns : goal.returns
returns c = same-puts (escaped-plain c.args.c _ c.needs_escape.ensures c.if-needs_escape.false) c.put_octet.ensures
