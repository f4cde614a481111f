-- `ends::front::end_front` meets its contract. Assumes nothing.
use borrow.Author.Rules.{rules}
use native.Mathlib.Omega.{arith}
use Rattle.codec.specs.Codec.{viewed, ◌then_by◌, number}
use Rattle.header.specs.Table.{front, originator, recipients, room_behind}
use Rattle.header.proofs.Legal.{front-recipients, front-information, addressees-legal, information-legal, information-size}
use Rattle.record_octets.specs.Record.{front_in, optional_address_in, optional_addresses_in}
use Rattle.ends.proofs.front.end_front.Goals as goal

pub end_number-at-requires : goal.end_number-at-requires
unfolding front originator recipients viewed ◌then_by◌ number front_in optional_address_in optional_addresses_in
end_number-at-requires c = search rules

pub end_optional-at-requires : goal.end_optional-at-requires
unfolding front originator recipients viewed ◌then_by◌ number front_in optional_address_in optional_addresses_in
end_optional-at-requires c = search rules

pub end_optional_part-at-requires-clause-placed : goal.end_optional_part-at-requires-clause-placed
unfolding front originator recipients viewed ◌then_by◌ number front_in optional_address_in optional_addresses_in
end_optional_part-at-requires-clause-placed c = search rules

pub end_optional_part-at-requires-2-clause-placed : goal.end_optional_part-at-requires-2-clause-placed
unfolding front originator recipients viewed ◌then_by◌ number front_in optional_address_in optional_addresses_in
end_optional_part-at-requires-2-clause-placed c = search rules

pub end_optional_part-at-requires-2-clause-asked : goal.end_optional_part-at-requires-2-clause-asked
unfolding front originator recipients viewed ◌then_by◌ number front_in optional_address_in optional_addresses_in
end_optional_part-at-requires-2-clause-asked c = let x = front_in c.args.x.now in λ there. addressees-legal x.recipients there (front-recipients x c.requires.1)

pub end_optional_part-requires-clause-placed : goal.end_optional_part-requires-clause-placed
unfolding front originator recipients viewed ◌then_by◌ number front_in optional_address_in optional_addresses_in
end_optional_part-requires-clause-placed c = let x = front_in c.args.x.now in let s = information-size (room_behind x.recipients) (omega arith) x.information (front-information x c.requires.1) in search rules

pub end_optional_part-requires-clause-asked : goal.end_optional_part-requires-clause-asked
unfolding front originator recipients viewed ◌then_by◌ number front_in optional_address_in optional_addresses_in
end_optional_part-requires-clause-asked c = let x = front_in c.args.x.now in λ there. addressees-legal x.information there (information-legal (room_behind x.recipients) (omega arith) x.information (front-information x c.requires.1))

pub returns : goal.returns
unfolding front originator recipients viewed ◌then_by◌ number front_in optional_address_in optional_addresses_in
returns c = let x = front_in c.args.x.now in let s = information-size (room_behind x.recipients) (omega arith) x.information (front-information x c.requires.1) in search rules
