-- `row_text::addresses::put_address` meets its contract. Assumes nothing.
use borrow.Author.Rules.{rules}
use mathlib.Core.Path.{ap}
use lib.ListN.{length}
use Rattle.record_octets.specs.Record.{optional_text_in, address_in}
use Rattle.row_text.proofs.Composing.{same-puts}
use Rattle.row_text.proofs.Texts.{urn-text, name-text, name-length}
use Rattle.row_text.proofs.addresses.put_address.Goals as goal

pub put_decimal-requires : goal.put_decimal-requires
unfolding address_in
put_decimal-requires c = let e = ap length (urn-text (address_in c.args.x.now) _ c.load_optional-urn.ensures c.if-urn.true) in search rules

pub returns-then-urn : goal.returns-then-urn
unfolding address_in
returns-then-urn c = same-puts (urn-text (address_in c.args.x.now) _ c.load_optional-urn.ensures c.if-urn.true) c.put_decimal.ensures

pub put_name-requires : goal.put_name-requires
unfolding address_in optional_text_in
put_name-requires c = let e = name-length (address_in c.args.x.now) _ c.load_optional-urn.ensures c.if-urn.false in search rules

pub returns : goal.returns
unfolding address_in optional_text_in
returns c = same-puts (name-text (address_in c.args.x.now) _ c.load_optional-urn.ensures c.if-urn.false) c.put_name.ensures
