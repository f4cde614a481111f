-- `arguments::block_at` meets its contract. Assumes nothing.
use Prim.Native.Nat.{◌-◌}
use mathlib.Core.Path.{◌≡◌, ◌∙◌}
use native.Mathlib.Omega.{arith}
use borrow.Author.Tests.{leb-true}
use lib.Dec.{leb}
use Rattle.codec.proofs.Fields.{and_left, and_right}
use Rattle.header.specs.Zero.{no_block}
use Rattle.cells.proofs.Lists.{many-count, many-entry}
use Rattle.record_octets.specs.Record.{block_in, blocks_in, header_in}
use Rattle.arguments.proofs.Told.{block-is}
use Rattle.arguments.proofs.block_at.Goals as goal

pub entry-requires : goal.entry-requires
entry-requires c = omega (arith, c.requires, c.cell_of.ensures.0)

pub returns : goal.returns
unfolding header_in blocks_in
returns c = (
  c.entry.ensures.1,
  λ has few.
      let h = header_in c.args.h.now in
      let n = c.args.number in
      let k = c.cell_of.ensures in
      let one = leb-true 1 n (and_left (leb 1 n) (leb n h.blocks.count) has) in
      let most = leb-true n h.blocks.count (and_right (leb 1 n) (leb n h.blocks.count) has) in
      let e : c.cell_of.result ≡ n - 1 = omega (arith, k.1 one (omega (arith, most, few))) in
      many-entry block_in 852 16 c.cell_of.result _ _ no_block c.entry.ensures.0 k.0 ∙ rw e (block-is h n no_block has (rw (many-count) (omega (arith, one, most, few)))),
)
