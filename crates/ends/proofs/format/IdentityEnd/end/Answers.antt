-- `ends::format::IdentityEnd::end` meets its contract. Assumes nothing.
use borrow.Author.Rules.{rules}
use Rattle.codec.specs.Codec.{◌then_by◌, viewed, number}
use Rattle.header.specs.Table.{identity}
use Rattle.record_octets.specs.Record.{identity_in}
use Rattle.ends.proofs.format.IdentityEnd.end.Goals as goal

pub end_number-at-requires : goal.end_number-at-requires
unfolding identity ◌then_by◌ viewed number identity_in
end_number-at-requires c = search rules

pub end_number-at-requires-2 : goal.end_number-at-requires-2
unfolding identity ◌then_by◌ viewed number identity_in
end_number-at-requires-2 c = search rules

pub end_optional-requires : goal.end_optional-requires
unfolding identity ◌then_by◌ viewed number identity_in
end_optional-requires c = search rules

pub returns : goal.returns
unfolding identity ◌then_by◌ viewed number identity_in
returns c = search rules
