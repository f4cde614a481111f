-- `checker::references::ReferencesCheck::check` meets its contract. Assumes nothing.
use Rattle.codec.specs.Codec.{viewed}
use Rattle.header.specs.Table.{references}
use Rattle.record_octets.specs.Record.{references_in}
use Rattle.checker.proofs.references.ReferencesCheck.check.Goals as goal

pub returns : goal.returns
unfolding references viewed references_in
returns c = rw c.load_word-count.ensures at c.check_entries.ensures
