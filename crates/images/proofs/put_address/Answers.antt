-- `images::put_address` meets its contract. Assumes nothing.
use Rattle.images.proofs.Copies.{address-urn, address-name, name-whole}
use Rattle.record_octets.specs.Record.{address_in}
use Rattle.cells.proofs.Stores.{filled_none, filled_next, filled-cleared, filled-all}
use native.Mathlib.Omega.{arith}
use mathlib.Core.Path.{sym, ◌∙◌}
use Rattle.images.proofs.put_address.Goals as goal

pub returns-then-present : goal.returns-then-present
unfolding address_in
returns-then-present c = address-urn _ _ (sym c.put_number-present.ensures.0 ∙ c.if-present.true) c.put_number-present.ensures.2 (filled-all (filled-cleared 72 _ (filled_next 8 _ _ (filled_none 80 c.args.x.now c.requires.0) (omega arith) c.x-1.given.0 c.put_number-present.ensures.1) (omega arith) c.x-then-present-1.given.0 c.clear.ensures))

pub returns : goal.returns
unfolding address_in
returns c = address-name _ _ (sym c.put_number-present.ensures.0 ∙ c.if-present.false) (name-whole c.args.a.now c.requires.1) (filled-all (filled_next 72 _ _ (filled_next 8 _ _ (filled_none 80 c.args.x.now c.requires.0) (omega arith) c.x-1.given.0 c.put_number-present.ensures.1) (omega arith) c.x-2-1.given.0 c.put_name.ensures))
