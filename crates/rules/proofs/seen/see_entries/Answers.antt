-- `rules::seen::see_entries` meets its contract. The invariant: what the blocks so far show. Assumes nothing.
use Prim.Native.Nat.{ℕ}
use mathlib.Core.Path.{sym, subst, ◌∙◌}
use native.Mathlib.Omega.{arith}
use Rattle.cells.proofs.Lists.{many-count, many-entry}
use Rattle.header.specs.Zero.{no_block}
use Rattle.record_octets.specs.Record.{block_in, blocks_of}
use Rattle.rules.proofs.Looks.{Looked, looked-none, looked-more, looked-all}
use Rattle.rules.proofs.seen.see_entries.Goals as goal

pub loop-i-init : goal.loop-i-init
loop-i-init c = looked-none _ _ _ _ _ (many-count block_in 852 16 _) (omega (arith, c.min-count.ensures)) _ (rw (sym c.unseen-seen.ensures.left) at c.unseen-seen.ensures)

pub entry-b-requires : goal.entry-b-requires
entry-b-requires c = omega (arith, c.requires, c.min-count.ensures)

pub see-seen-requires : goal.see-seen-requires
see-seen-requires c = c.entry-b.ensures.1

pub loop-i-preserved : goal.loop-i-preserved
loop-i-preserved c =
    let g = many-entry block_in 852 16 c.loop-i.i c.args.list.now _ no_block c.entry-b.ensures.0 (omega (arith, c.min-count.ensures)) in
    looked-more _ _ _ _ _ (many-count block_in 852 16 _) (omega (arith, c.min-count.ensures)) _ _ _ c.loop-i.invariant _ (omega arith) (rw g at c.see-seen.ensures)

pub returns : goal.returns
returns c =
    let s = c.args in
    let i = subst (λ (o : ℕ). Looked s.x c.alone_share-alone.result.0 o c.min-count.result (blocks_of s.list.now s.held).list c.loop-i.seen c.loop-i.i) c.unseen-seen.ensures.left c.loop-i.invariant in
    c.conclude.ensures
    ∙ looked-all _ (blocks_of s.list.now s.held) _ _ _ (many-count block_in 852 16 _) c.min-count.ensures c.alone_share-alone.ensures _ _ i (omega arith) _
