-- `write_group::response::ResponseWrite::write` meets its contract. Assumes nothing.
use borrow.Author.Rules.{rules}
use Rattle.codec.specs.Codec.{◌then_by◌, viewed}
use Rattle.codec.proofs.Compose.{writing}
use Rattle.header.specs.Table.{response}
use Rattle.record_octets.specs.Record.{response_in}
use Rattle.write_group.proofs.response.ResponseWrite.write.Goals as goal

pub write-at-requires : goal.write-at-requires
unfolding response ◌then_by◌ viewed response_in
write-at-requires c = search rules

pub write_compliance-at-requires : goal.write_compliance-at-requires
unfolding response ◌then_by◌ viewed response_in
write_compliance-at-requires c = search rules

pub write_optional_text-requires : goal.write_optional_text-requires
unfolding response ◌then_by◌ viewed response_in
write_optional_text-requires c = search rules

pub returns : goal.returns
unfolding response response_in
returns c = search writing depth 12
