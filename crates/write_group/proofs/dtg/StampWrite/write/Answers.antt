-- `write_group::dtg::StampWrite::write` meets its contract. Assumes nothing.
use borrow.Author.Rules.{rules}
use Rattle.codec.specs.Codec.{◌then_by◌, viewed}
use Rattle.codec.proofs.Compose.{writing}
use Rattle.header.specs.Table.{stamp}
use Rattle.record_octets.specs.Record.{stamp_in}
use Rattle.write_group.proofs.dtg.StampWrite.write.Goals as goal

pub write-at-requires : goal.write-at-requires
unfolding stamp ◌then_by◌ viewed stamp_in
write-at-requires c = search rules

pub write_optional-requires : goal.write_optional-requires
unfolding stamp ◌then_by◌ viewed stamp_in
write_optional-requires c = search rules

pub returns : goal.returns
unfolding stamp stamp_in
returns c = search writing depth 12
