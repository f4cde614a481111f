-- `ends::format::end_format` meets its contract. Assumes nothing.
use borrow.Author.Rules.{rules}
use Rattle.codec.specs.Codec.{◌then_by◌, viewed, number}
use Rattle.header.specs.Table.{format, optional_identity}
use Rattle.record_octets.specs.Record.{format_in, optional_identity_in}
use Rattle.ends.proofs.format.end_format.Goals as goal

pub end_number-at-requires : goal.end_number-at-requires
unfolding format optional_identity ◌then_by◌ viewed number format_in optional_identity_in
end_number-at-requires c = search rules

pub end_standard_version-at-requires : goal.end_standard_version-at-requires
unfolding format optional_identity ◌then_by◌ viewed number format_in optional_identity_in
end_standard_version-at-requires c = search rules

pub end_optional_part-at-requires-clause-placed : goal.end_optional_part-at-requires-clause-placed
unfolding format optional_identity ◌then_by◌ viewed number format_in optional_identity_in
end_optional_part-at-requires-clause-placed c = search rules

pub end_optional_text-requires : goal.end_optional_text-requires
unfolding format optional_identity ◌then_by◌ viewed number format_in optional_identity_in
end_optional_text-requires c = search rules

pub returns : goal.returns
unfolding format optional_identity ◌then_by◌ viewed number format_in optional_identity_in
returns c = search rules
