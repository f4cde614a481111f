-- `read_block::block::read_entries` meets its contract. The invariant: what is read behind the entries so far completes the list. Assumes nothing.
use Prim.Native.Nat.{◌+◌, ◌-◌}
use mathlib.Core.Path.{◌≡◌, refl, ◌∙◌}
use mathlib.Core.Bool.{true, false}
use native.Mathlib.Omega.{arith}
use lib.Dec.{lit<}
use lib.ListN.{set}
use Rattle.bits.specs.Datagrams.{bits_in}
use Rattle.codec.specs.Codec.{◌&◌}
use Rattle.codec.specs.Lists.{recurs}
use Rattle.codec.proofs.Compose.{Gets, ended, shape-got, shape-stop, group-got, group-stop}
use Rattle.header.specs.Table.{block, blocks}
use Rattle.header.proofs.Lawful.{block-lawful}
use Rattle.header.specs.Zero.{no_block}
use Rattle.into.proofs.Telling.{telling-stop, telling-got}
use Rattle.into.proofs.Putting.{putting-none, putting-room, putting-part, putting-part-long, putting-more, putting-end, putting-octets, putting-typed, putting-stop}
use Rattle.record_octets.specs.Record.{block_octets}
use Rattle.record_octets.specs.Typed.{TypedBlock}
use Rattle.record_octets.proofs.Back.{block-long}
use Rattle.read_block.proofs.block.read_entries.Invariants.{fine, nothing}
use Rattle.read_block.proofs.block.read_entries.Goals as goal

pub loop-more-init : goal.loop-more-init
loop-more-init c = putting-none no_block (block _) block_octets TypedBlock 852 block-long nothing fine _ 16 _ _ _ c.requires

pub overflow_mul-to : goal.overflow_mul-to
overflow_mul-to c = omega (arith, c.loop-more.invariant.listing.small)

pub overflow_sub-n : goal.overflow_sub-n
overflow_sub-n c = omega (arith, c.loop-more.invariant.listing.small)

pub overflow_add-to : goal.overflow_add-to
overflow_add-to c = omega (arith, c.loop-more.invariant.listing.small)

pub slice_bounds-read_entry-end : goal.slice_bounds-read_entry-end
slice_bounds-read_entry-end c = putting-room no_block (block _) block_octets TypedBlock 852 block-long nothing fine (bits_in c.args.s) 16 15 _ _ _ _ c.loop-more.invariant (lit< tt)

pub read_entry-requires : goal.read_entry-requires
read_entry-requires c = (putting-part no_block (block _) block_octets TypedBlock 852 block-long nothing fine (bits_in c.args.s) 16 15 _ _ _ _ c.loop-more.invariant (lit< tt), putting-part-long no_block (block _) block_octets TypedBlock 852 block-long nothing fine (bits_in c.args.s) 16 15 _ _ _ _ c.loop-more.invariant (lit< tt))

pub returns-in_err-more : goal.returns-in_err-more
unfolding blocks
returns-in_err-more c = telling-stop (record { list = c.loop-more.invariant.list; count = 0 }) _ c.in_err-more.field-0.0 c.from_residual.ensures.1 (shape-stop _ _ _ _ _ _ _ _ _ (putting-stop no_block (block _) block_octets TypedBlock 852 block-long nothing fine (bits_in c.args.s) 16 15 _ _ _ _ c.loop-more.invariant (lit< tt) _ _ _ (group-stop _ _ _ _ _ c.in_err-more.ensures.told)))

pub overflow_add-n : goal.overflow_add-n
overflow_add-n c = omega (arith, c.loop-more.invariant.listing.small)

pub overflow_cast-result : goal.overflow_cast-result
overflow_cast-result c = omega (arith, c.loop-more.invariant.listing.small)

pub returns-then-not-more : goal.returns-then-not-more
unfolding blocks
returns-then-not-more c =
    let v = c.in_ok-more.ensures.value in
    let h = c.in_ok-more.ensures.held in
    let g : Gets (recurs (15 - c.loop-more.n) & block c.args.version) (bits_in c.args.s) c.loop-more.place.0 (v.0, v.1) c.in_ok-more.next.0 = group-got _ _ _ _ _ c.in_ok-more.ensures.told in
    let f : v.0 ≡ false = h.0 ∙ c.if-not-more.true in
    let t = putting-typed no_block (block _) block_octets TypedBlock 852 block-long nothing fine (bits_in c.args.s) 16 15 _ _ _ _ c.loop-more.invariant (lit< tt) (block-lawful _) _ v.1 c.list-1.given.0 h.1 h.2 in
    telling-got (record { list = set c.loop-more.invariant.list c.loop-more.n v.1; count = c.loop-more.n + 1 }) _ _
    (ended _ _ _ _ _ (shape-got _ _ _ _ _ _ _ _ _ _ (putting-end no_block (block _) block_octets TypedBlock 852 block-long nothing fine (bits_in c.args.s) 16 15 _ _ _ _ c.loop-more.invariant (lit< tt) (block-lawful _) _ v.1 c.list-1.given.0 h.1 h.2 _ _ _ (rw f at g)) refl))
    refl
    (putting-octets no_block (block _) block_octets TypedBlock 852 block-long nothing fine (bits_in c.args.s) 16 15 _ _ _ _ c.loop-more.invariant (lit< tt) (block-lawful _) _ v.1 c.list-1.given.0 h.1 h.2)
    (omega (arith, c.loop-more.invariant.listing.small), t.0, t.1)

pub loop-more-smaller : goal.loop-more-smaller
loop-more-smaller c = omega (arith, c.loop-more.invariant.listing.small)

pub loop-more-preserved : goal.loop-more-preserved
loop-more-preserved c =
    let v = c.in_ok-more.ensures.value in
    let h = c.in_ok-more.ensures.held in
    let g : Gets (recurs (15 - c.loop-more.n) & block c.args.version) (bits_in c.args.s) c.loop-more.place.0 (v.0, v.1) c.in_ok-more.next.0 = group-got _ _ _ _ _ c.in_ok-more.ensures.told in
    let f : v.0 ≡ true = h.0 ∙ c.if-not-more.false in
    putting-more no_block (block _) block_octets TypedBlock 852 block-long nothing fine (bits_in c.args.s) 16 15 _ _ _ _ c.loop-more.invariant (lit< tt) (block-lawful _) _ v.1 c.list-1.given.0 h.1 h.2 _ (rw f at g)
