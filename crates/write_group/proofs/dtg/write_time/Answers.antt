-- `write_group::dtg::write_time` meets its contract. Assumes nothing.
use borrow.Author.Rules.{rules}
use Rattle.codec.specs.Codec.{◌then_by◌, viewed, number}
use Rattle.codec.proofs.Compose.{writing}
use Rattle.header.specs.Table.{time}
use Rattle.record_octets.specs.Record.{time_in}
use Rattle.write_group.proofs.dtg.write_time.Goals as goal

pub write_word-at-requires : goal.write_word-at-requires
unfolding time ◌then_by◌ viewed number time_in
write_word-at-requires c = search rules

pub write_word-at-requires-2 : goal.write_word-at-requires-2
unfolding time ◌then_by◌ viewed number time_in
write_word-at-requires-2 c = search rules

pub write_word-requires : goal.write_word-requires
unfolding time ◌then_by◌ viewed number time_in
write_word-requires c = search rules

pub returns : goal.returns
unfolding time time_in
returns c = search writing depth 12
