-- `write_group::references::ReferenceWrite::write` meets its contract. Assumes nothing.
use borrow.Author.Rules.{rules}
use Rattle.codec.specs.Codec.{◌then_by◌, viewed}
use Rattle.codec.proofs.Compose.{writing}
use Rattle.header.specs.Table.{reference}
use Rattle.record_octets.specs.Record.{reference_in}
use Rattle.write_group.proofs.references.ReferenceWrite.write.Goals as goal

pub write-at-requires : goal.write-at-requires
unfolding reference ◌then_by◌ viewed reference_in
write-at-requires c = search rules

pub write-requires : goal.write-requires
unfolding reference ◌then_by◌ viewed reference_in
write-requires c = search rules

pub returns : goal.returns
unfolding reference reference_in
returns c = search writing depth 12
