-- `write_group::references::ReferencesWrite::write` meets its contract. Assumes nothing.
use Rattle.codec.specs.Codec.{viewed}
use Rattle.codec.proofs.Compose.{shape-writes}
use Rattle.header.specs.Table.{references}
use Rattle.record_octets.specs.Record.{references_in}
use Rattle.write_group.proofs.references.ReferencesWrite.write.Goals as goal

pub write_entries-requires-clause-room : goal.write_entries-requires-clause-room
unfolding references viewed references_in
write_entries-requires-clause-room c = rw c.load_word-count.ensures c.requires.0

pub write_entries-requires-clause-legal : goal.write_entries-requires-clause-legal
unfolding references viewed references_in
write_entries-requires-clause-legal c = rw c.load_word-count.ensures c.requires.1

pub returns : goal.returns
unfolding references references_in
returns c = shape-writes _ _ _ _ _ _ (references_in c.args.x.now) _ _ _ _ (rw c.load_word-count.ensures at c.write_entries.ensures)
