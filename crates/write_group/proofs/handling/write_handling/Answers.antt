-- `write_group::handling::write_handling` meets its contract. Assumes nothing.
use borrow.Author.Rules.{rules}
use Rattle.codec.specs.Codec.{◌then_by◌, viewed}
use Rattle.codec.proofs.Compose.{writing}
use Rattle.header.specs.Table.{handling}
use Rattle.record_octets.specs.Record.{handling_in}
use Rattle.write_group.proofs.handling.write_handling.Goals as goal

pub write_optional-at-requires : goal.write_optional-at-requires
unfolding handling ◌then_by◌ viewed handling_in
write_optional-at-requires c = search rules

pub write_codes-at-requires : goal.write_codes-at-requires
unfolding handling ◌then_by◌ viewed handling_in
write_codes-at-requires c = search rules

pub write_optional_text-requires : goal.write_optional_text-requires
unfolding handling ◌then_by◌ viewed handling_in
write_optional_text-requires c = search rules

pub returns : goal.returns
unfolding handling handling_in
returns c = search writing depth 12
