-- `ends::response::end_compliance` meets its contract. Assumes nothing.
use borrow.Author.Rules.{rules}
use Rattle.codec.specs.Codec.{◌then_by◌, viewed, number}
use Rattle.header.specs.Table.{compliance}
use Rattle.record_octets.specs.Record.{compliance_in}
use Rattle.ends.proofs.response.end_compliance.Goals as goal

pub end_number-at-requires : goal.end_number-at-requires
unfolding compliance ◌then_by◌ viewed number compliance_in
end_number-at-requires c = search rules

pub end_optional-at-requires : goal.end_optional-at-requires
unfolding compliance ◌then_by◌ viewed number compliance_in
end_optional-at-requires c = search rules

pub end_optional-requires : goal.end_optional-requires
unfolding compliance ◌then_by◌ viewed number compliance_in
end_optional-requires c = search rules

pub returns : goal.returns
unfolding compliance ◌then_by◌ viewed number compliance_in
returns c = search rules
