-- `write_group::format::write_format` meets its contract. Assumes nothing.
use borrow.Author.Rules.{rules}
use Rattle.codec.specs.Codec.{◌then_by◌, viewed, number}
use Rattle.codec.proofs.Compose.{writing}
use Rattle.header.specs.Table.{format, optional_identity}
use Rattle.record_octets.specs.Record.{format_in, optional_identity_in}
use Rattle.write_group.proofs.format.write_format.Goals as goal

pub write_word-at-requires : goal.write_word-at-requires
unfolding format optional_identity ◌then_by◌ viewed number format_in optional_identity_in
write_word-at-requires c = search rules

pub write_standard_version-at-requires : goal.write_standard_version-at-requires
unfolding format optional_identity ◌then_by◌ viewed number format_in optional_identity_in
write_standard_version-at-requires c = search rules

pub write_optional_part-at-requires-clause-room : goal.write_optional_part-at-requires-clause-room
unfolding format optional_identity ◌then_by◌ viewed number format_in optional_identity_in
write_optional_part-at-requires-clause-room c = search rules

pub write_optional_text-requires : goal.write_optional_text-requires
unfolding format optional_identity ◌then_by◌ viewed number format_in optional_identity_in
write_optional_text-requires c = search rules

pub returns : goal.returns
unfolding format optional_identity format_in optional_identity_in
returns c = search writing depth 12
