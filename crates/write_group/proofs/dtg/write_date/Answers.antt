-- `write_group::dtg::write_date` meets its contract. Assumes nothing.
use borrow.Author.Rules.{rules}
use Rattle.codec.specs.Codec.{◌then_by◌, viewed, number}
use Rattle.codec.proofs.Compose.{writing, number-writes}
use Rattle.header.specs.Table.{date, day_in}
use Rattle.record_octets.specs.Record.{date_in}
use Rattle.write_group.proofs.dtg.write_date.Goals as goal

pub write_word-at-requires : goal.write_word-at-requires
unfolding date day_in ◌then_by◌ viewed number date_in
write_word-at-requires c = search rules

pub write_word-at-requires-2 : goal.write_word-at-requires-2
unfolding date day_in ◌then_by◌ viewed number date_in
write_word-at-requires-2 c = search rules

pub write_word-requires : goal.write_word-requires
unfolding date day_in ◌then_by◌ viewed number date_in
write_word-requires c = search rules

pub returns : goal.returns
unfolding date day_in date_in
returns c = search (writing, number-writes) depth 12
