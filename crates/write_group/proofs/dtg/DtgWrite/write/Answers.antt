-- `write_group::dtg::DtgWrite::write` meets its contract. Assumes nothing.
use borrow.Author.Rules.{rules}
use Rattle.codec.specs.Codec.{◌then_by◌, viewed}
use Rattle.codec.proofs.Compose.{writing}
use Rattle.header.specs.Table.{dtg}
use Rattle.record_octets.specs.Record.{dtg_in}
use Rattle.write_group.proofs.dtg.DtgWrite.write.Goals as goal

pub write_date-at-requires : goal.write_date-at-requires
unfolding dtg ◌then_by◌ viewed dtg_in
write_date-at-requires c = search rules

pub write_time-requires : goal.write_time-requires
unfolding dtg ◌then_by◌ viewed dtg_in
write_time-requires c = search rules

pub returns : goal.returns
unfolding dtg dtg_in
returns c = search writing depth 12
