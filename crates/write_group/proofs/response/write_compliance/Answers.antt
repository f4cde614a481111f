-- `write_group::response::write_compliance` meets its contract. Assumes nothing.
use borrow.Author.Rules.{rules}
use Rattle.codec.specs.Codec.{◌then_by◌, viewed, number}
use Rattle.codec.proofs.Compose.{writing}
use Rattle.header.specs.Table.{compliance}
use Rattle.record_octets.specs.Record.{compliance_in}
use Rattle.write_group.proofs.response.write_compliance.Goals as goal

pub write_word-at-requires : goal.write_word-at-requires
unfolding compliance ◌then_by◌ viewed number compliance_in
write_word-at-requires c = search rules

pub write_optional-at-requires : goal.write_optional-at-requires
unfolding compliance ◌then_by◌ viewed number compliance_in
write_optional-at-requires c = search rules

pub write_optional-requires : goal.write_optional-requires
unfolding compliance ◌then_by◌ viewed number compliance_in
write_optional-requires c = search rules

pub returns : goal.returns
unfolding compliance compliance_in
returns c = search writing depth 12
