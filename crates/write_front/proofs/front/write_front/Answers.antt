-- `write_front::front::write_front` meets its contract. Assumes nothing.
use borrow.Author.Rules.{rules}
use native.Mathlib.Omega.{arith}
use Rattle.codec.specs.Codec.{viewed, ◌then_by◌}
use Rattle.codec.proofs.Compose.{then-writes, shape-writes}
use Rattle.header.specs.Table.{front, recipients, room_behind}
use Rattle.header.proofs.Legal.{front-recipients, front-information, addressees-legal, information-legal, information-size, information-writes}
use Rattle.record_octets.specs.Record.{front_in, optional_addresses_in}
use Rattle.write_front.proofs.front.write_front.Goals as goal

pub write_origin-at-requires : goal.write_origin-at-requires
unfolding front viewed ◌then_by◌ front_in
write_origin-at-requires c = search rules

pub write_optional_part-at-requires-clause-room : goal.write_optional_part-at-requires-clause-room
unfolding front recipients viewed ◌then_by◌ front_in optional_addresses_in
write_optional_part-at-requires-clause-room c = search rules

pub write_optional_part-at-requires-clause-asked : goal.write_optional_part-at-requires-clause-asked
unfolding front recipients viewed ◌then_by◌ front_in optional_addresses_in
write_optional_part-at-requires-clause-asked c = let x = front_in c.args.x.now in λ there. addressees-legal x.recipients there (front-recipients x c.requires.1)

pub write_optional_part-requires-clause-room : goal.write_optional_part-requires-clause-room
unfolding front recipients viewed ◌then_by◌ front_in optional_addresses_in
write_optional_part-requires-clause-room c = let x = front_in c.args.x.now in let s = information-size (room_behind x.recipients) (omega arith) x.information (front-information x c.requires.1) in search rules

pub write_optional_part-requires-clause-asked : goal.write_optional_part-requires-clause-asked
unfolding front recipients viewed ◌then_by◌ front_in optional_addresses_in
write_optional_part-requires-clause-asked c = let x = front_in c.args.x.now in λ there. addressees-legal x.information there (information-legal (room_behind x.recipients) (omega arith) x.information (front-information x c.requires.1))

pub returns : goal.returns
unfolding front recipients front_in optional_addresses_in
returns c =
    let x = front_in c.args.x.now in
    let others = shape-writes _ _ _ _ _ _ x.information _ _ _ _ c.write_optional_part.ensures in
    let informed = information-writes (room_behind x.recipients) (omega arith) x.information (front-information x c.requires.1) _ _ _ _ others in
    let addressees = shape-writes _ _ _ _ _ _ x.recipients _ _ _ _ c.write_optional_part-at.ensures in
    shape-writes _ _ _ _ _ _ x _ _ _ _ (then-writes _ _ _ _ _ _ _ _ _ c.write_origin-at.ensures (then-writes _ _ _ _ _ _ _ _ _ addressees informed))
