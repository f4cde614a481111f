-- `writer::wire::write_size` meets its contract. Assumes nothing.
use borrow.Author.Rules.{rules}
use Rattle.record_octets.specs.Record.{header_in}
use Rattle.writer.proofs.wire.write_size.Goals as goal

pub write_optional-requires : goal.write_optional-requires
unfolding header_in
write_optional-requires c = rw c.load_flag-sized.ensures (c.requires.0, search rules)

pub returns : goal.returns
unfolding header_in
returns c = rw c.load_flag-sized.ensures at c.write_optional.ensures
