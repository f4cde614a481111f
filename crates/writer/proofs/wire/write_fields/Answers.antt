-- `writer::wire::write_fields` meets its contract. Assumes nothing.
use borrow.Author.Rules.{rules}
use native.Mathlib.Omega.{arith}
use Rattle.codec.specs.Codec.{viewed, ◌then_by◌}
use Rattle.codec.proofs.Compose.{writing}
use Rattle.header.specs.Table.{wire}
use Rattle.record_octets.specs.Record.{header_in}
use Rattle.writer.specs.Writing.{wire_of}
use Rattle.writer.proofs.Parts.{wire-parts}
use Rattle.writer.proofs.wire.write_fields.Goals as goal

pub write_front-at-requires : goal.write_front-at-requires
unfolding wire viewed ◌then_by◌ header_in
write_front-at-requires c = (search rules, (wire-parts (wire_of (header_in c.args.h.now) c.args.size) c.requires.1).0, search rules)

pub write_size-at-requires : goal.write_size-at-requires
unfolding wire viewed ◌then_by◌ header_in
write_size-at-requires c = search rules

pub write_messages-requires : goal.write_messages-requires
unfolding wire viewed ◌then_by◌ header_in
write_messages-requires c = ((search rules, omega (arith, c.requires.0.1, c.write_front-at.ensures.next, c.write_size-at.ensures.next)), (wire-parts (wire_of (header_in c.args.h.now) c.args.size) c.requires.1).1, search rules)

pub returns : goal.returns
unfolding wire header_in
returns c = search writing depth 12
