-- `ends::references::ReferencesEnd::end` meets its contract. Assumes nothing.
use Rattle.codec.specs.Codec.{viewed}
use Rattle.header.specs.Table.{references}
use Rattle.record_octets.specs.Record.{references_in}
use Rattle.ends.proofs.references.ReferencesEnd.end.Goals as goal

pub end_entries-requires-clause-placed : goal.end_entries-requires-clause-placed
unfolding references viewed references_in
end_entries-requires-clause-placed c = rw c.load_word-count.ensures c.requires.0

pub end_entries-requires-clause-legal : goal.end_entries-requires-clause-legal
unfolding references viewed references_in
end_entries-requires-clause-legal c = rw c.load_word-count.ensures c.requires.1

pub returns : goal.returns
unfolding references viewed references_in
returns c = rw c.load_word-count.ensures at c.end_entries.ensures
