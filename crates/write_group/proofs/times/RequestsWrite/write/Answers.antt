-- `write_group::times::RequestsWrite::write` meets its contract. Assumes nothing.
use borrow.Author.Rules.{rules}
use Rattle.codec.specs.Codec.{◌then_by◌, viewed, flag}
use Rattle.codec.proofs.Compose.{writing}
use Rattle.header.specs.Table.{requests}
use Rattle.record_octets.specs.Record.{requests_in}
use Rattle.write_group.proofs.times.RequestsWrite.write.Goals as goal

pub write_mark-at-requires : goal.write_mark-at-requires
unfolding requests ◌then_by◌ viewed flag requests_in
write_mark-at-requires c = search rules

pub write_mark-at-requires-2 : goal.write_mark-at-requires-2
unfolding requests ◌then_by◌ viewed flag requests_in
write_mark-at-requires-2 c = search rules

pub write_mark-requires : goal.write_mark-requires
unfolding requests ◌then_by◌ viewed flag requests_in
write_mark-requires c = search rules

pub returns : goal.returns
unfolding requests requests_in
returns c = search writing depth 12
