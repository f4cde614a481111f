-- `write_front::front::write_origin` meets its contract. Assumes nothing.
use borrow.Author.Rules.{rules}
use Rattle.codec.specs.Codec.{◌then_by◌, viewed, number}
use Rattle.codec.proofs.Compose.{then-writes, shape-writes, number-writes}
use Rattle.header.specs.Table.{originator}
use Rattle.record_octets.specs.Record.{front_in, optional_address_in}
use Rattle.write_front.proofs.front.write_origin.Goals as goal

pub write_word-at-requires : goal.write_word-at-requires
unfolding ◌then_by◌ number front_in
write_word-at-requires c = search rules

pub write_optional-at-requires : goal.write_optional-at-requires
unfolding ◌then_by◌ number front_in
write_optional-at-requires c = search rules

pub write_optional_part-requires-clause-room : goal.write_optional_part-requires-clause-room
unfolding originator viewed ◌then_by◌ number front_in optional_address_in
write_optional_part-requires-clause-room c = search rules

pub returns : goal.returns
unfolding originator front_in optional_address_in
returns c =
    let v = number-writes _ _ _ _ 1 2 2 _ _ _ _ _ c.write_word-at.ensures in
    let sender = shape-writes _ _ _ _ _ _ (front_in c.args.x.now).originator _ _ _ _ c.write_optional_part.ensures in
    then-writes _ _ _ _ _ _ _ _ _ v (then-writes _ _ _ _ _ _ _ _ _ c.write_optional-at.ensures sender)
