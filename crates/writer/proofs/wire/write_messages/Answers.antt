-- `writer::wire::write_messages` meets its contract. Assumes nothing.
use borrow.Author.Rules.{rules}
use mathlib.Core.Path.{◌∙◌}
use Rattle.record_octets.specs.Record.{header_in}
use Rattle.writer.proofs.Parts.{check-by, room_by, writes-by}
use Rattle.writer.proofs.wire.write_messages.Goals as goal

pub write_blocks-requires : goal.write_blocks-requires
unfolding header_in
write_blocks-requires c =
    let g = (header_in c.args.h.now).blocks in
    let e = c.front_version-version.ensures in
    (room_by g e c.args.out.now c.args.at.0 c.requires.0, check-by g e ∙ c.requires.1, search rules)

pub returns : goal.returns
unfolding header_in
returns c = writes-by (header_in c.args.h.now).blocks c.front_version-version.ensures _ _ _ _ c.write_blocks.ensures
