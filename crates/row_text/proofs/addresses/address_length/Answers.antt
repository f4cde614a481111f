-- `row_text::addresses::address_length` meets its contract. Assumes nothing.
use borrow.Author.Rules.{rules}
use mathlib.Core.Path.{ap}
use lib.ListN.{length}
use Rattle.record_octets.specs.Record.{optional_text_in, address_in}
use Rattle.row_text.proofs.Texts.{urn-text, name-length}
use Rattle.row_text.proofs.addresses.address_length.Goals as goal

pub returns-then-urn : goal.returns-then-urn
unfolding address_in
returns-then-urn c = let e = ap length (urn-text (address_in c.args.x.now) _ c.load_optional-urn.ensures c.if-urn.true) in search rules

pub returns : goal.returns
unfolding address_in optional_text_in
returns c = let e = name-length (address_in c.args.x.now) _ c.load_optional-urn.ensures c.if-urn.false in search rules
