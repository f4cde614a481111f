-- `writer::wire::blocks_place` meets its contract. Assumes nothing.
use borrow.Author.Rules.{rules}
use native.Mathlib.Omega.{arith}
use Rattle.codec.specs.Codec.{viewed, ◌then_by◌}
use Rattle.header.specs.Table.{wire}
use Rattle.header.proofs.Bounds.{front-bounded}
use Rattle.record_octets.specs.Record.{header_in}
use Rattle.writer.proofs.Parts.{size-short}
use Rattle.writer.proofs.wire.blocks_place.Goals as goal

pub end_front-at-requires : goal.end_front-at-requires
unfolding header_in
end_front-at-requires c = (omega (arith, front-bounded.most (header_in c.args.h.now).front c.requires.0), c.requires.0, search rules)

pub end_optional-requires : goal.end_optional-requires
unfolding header_in
end_optional-requires c = omega (arith, front-bounded.most (header_in c.args.h.now).front c.requires.0, size-short c.load_flag-sized.result 0, c.end_front-at.ensures)

pub returns : goal.returns
unfolding wire viewed ◌then_by◌ header_in
returns c =
    let h = header_in c.args.h.now in
    let e = rw c.load_flag-sized.ensures at c.end_optional.ensures in
    (omega (arith, e, c.end_front-at.ensures), omega (arith, e, c.end_front-at.ensures, front-bounded.most h.front c.requires.0, size-short h.sized 0))
