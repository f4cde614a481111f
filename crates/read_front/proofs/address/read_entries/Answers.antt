-- `read_front::address::read_entries` meets its contract. The invariant: what is read behind the entries so far completes the list. Assumes nothing.
use Prim.Native.Nat.{◌+◌, ◌-◌}
use mathlib.Core.Path.{◌≡◌, refl, ◌∙◌}
use mathlib.Core.Bool.{true, false}
use native.Mathlib.Omega.{arith}
use lib.ListN.{set}
use Rattle.bits.specs.Datagrams.{bits_in}
use Rattle.codec.specs.Codec.{◌&◌}
use Rattle.codec.specs.Lists.{recurs}
use Rattle.codec.proofs.Compose.{Gets, ended, shape-got, shape-stop, group-got, group-stop}
use Rattle.header.specs.Table.{address, addresses}
use Rattle.header.proofs.Lawful.{address-lawful}
use Rattle.header.specs.Zero.{no_address}
use Rattle.into.proofs.Telling.{telling-stop, telling-got}
use Rattle.into.proofs.Putting.{putting-none, putting-room, putting-part, putting-part-long, putting-more, putting-end, putting-octets, putting-typed, putting-stop}
use Rattle.record_octets.specs.Record.{address_octets}
use Rattle.record_octets.specs.Typed.{TypedAddress}
use Rattle.record_octets.proofs.Back.{address-long}
use Rattle.read_front.proofs.address.read_entries.Invariants.{fine, nothing}
use Rattle.read_front.proofs.address.read_entries.Goals as goal

pub loop-more-init : goal.loop-more-init
loop-more-init c = (c.requires.1, putting-none no_address address address_octets TypedAddress 80 address-long nothing fine _ 16 _ _ _ c.requires.0)

pub overflow_mul-to : goal.overflow_mul-to
overflow_mul-to c = omega (arith, c.loop-more.invariant.1.listing.small, c.loop-more.invariant.0)

pub overflow_sub-left : goal.overflow_sub-left
overflow_sub-left c = omega (arith, c.loop-more.invariant.1.listing.small, c.loop-more.invariant.0)

pub overflow_add-to : goal.overflow_add-to
overflow_add-to c = omega (arith, c.loop-more.invariant.1.listing.small, c.loop-more.invariant.0)

pub slice_bounds-read_entry-end : goal.slice_bounds-read_entry-end
slice_bounds-read_entry-end c = putting-room no_address address address_octets TypedAddress 80 address-long nothing fine (bits_in c.args.s) 16 c.args.left _ _ _ _ c.loop-more.invariant.1 c.loop-more.invariant.0

pub read_entry-requires : goal.read_entry-requires
read_entry-requires c = (putting-part no_address address address_octets TypedAddress 80 address-long nothing fine (bits_in c.args.s) 16 c.args.left _ _ _ _ c.loop-more.invariant.1 c.loop-more.invariant.0, putting-part-long no_address address address_octets TypedAddress 80 address-long nothing fine (bits_in c.args.s) 16 c.args.left _ _ _ _ c.loop-more.invariant.1 c.loop-more.invariant.0)

pub returns-in_err-more : goal.returns-in_err-more
unfolding addresses
returns-in_err-more c = telling-stop (record { list = c.loop-more.invariant.1.list; count = 0 }) _ c.in_err-more.field-0.0 c.from_residual.ensures.1 (shape-stop _ _ _ _ _ _ _ _ _ (putting-stop no_address address address_octets TypedAddress 80 address-long nothing fine (bits_in c.args.s) 16 c.args.left _ _ _ _ c.loop-more.invariant.1 c.loop-more.invariant.0 _ _ _ (group-stop _ _ _ _ _ c.in_err-more.ensures.told)))

pub overflow_add-n : goal.overflow_add-n
overflow_add-n c = omega (arith, c.loop-more.invariant.1.listing.small, c.loop-more.invariant.0)

pub overflow_cast-result : goal.overflow_cast-result
overflow_cast-result c = omega (arith, c.loop-more.invariant.1.listing.small, c.loop-more.invariant.0)

pub returns-then-not-more : goal.returns-then-not-more
unfolding addresses
returns-then-not-more c =
    let v = c.in_ok-more.ensures.value in
    let h = c.in_ok-more.ensures.held in
    let g : Gets (recurs (c.args.left - c.loop-more.n) & address) (bits_in c.args.s) c.loop-more.place.0 (v.0, v.1) c.in_ok-more.next.0 = group-got _ _ _ _ _ c.in_ok-more.ensures.told in
    let f : v.0 ≡ false = h.0 ∙ c.if-not-more.true in
    let t = putting-typed no_address address address_octets TypedAddress 80 address-long nothing fine (bits_in c.args.s) 16 c.args.left _ _ _ _ c.loop-more.invariant.1 c.loop-more.invariant.0 address-lawful _ v.1 c.list-1.given.0 h.1 h.2 in
    telling-got (record { list = set c.loop-more.invariant.1.list c.loop-more.n v.1; count = c.loop-more.n + 1 }) _ _
    (ended _ _ _ _ _ (shape-got _ _ _ _ _ _ _ _ _ _ (putting-end no_address address address_octets TypedAddress 80 address-long nothing fine (bits_in c.args.s) 16 c.args.left _ _ _ _ c.loop-more.invariant.1 c.loop-more.invariant.0 address-lawful _ v.1 c.list-1.given.0 h.1 h.2 _ _ _ (rw f at g)) refl))
    refl
    (putting-octets no_address address address_octets TypedAddress 80 address-long nothing fine (bits_in c.args.s) 16 c.args.left _ _ _ _ c.loop-more.invariant.1 c.loop-more.invariant.0 address-lawful _ v.1 c.list-1.given.0 h.1 h.2)
    (omega (arith, c.loop-more.invariant.1.listing.small, c.loop-more.invariant.0), t.0, t.1)

pub loop-more-smaller : goal.loop-more-smaller
loop-more-smaller c = omega (arith, c.loop-more.invariant.1.listing.small, c.loop-more.invariant.0)

pub loop-more-preserved : goal.loop-more-preserved
loop-more-preserved c =
    let v = c.in_ok-more.ensures.value in
    let h = c.in_ok-more.ensures.held in
    let g : Gets (recurs (c.args.left - c.loop-more.n) & address) (bits_in c.args.s) c.loop-more.place.0 (v.0, v.1) c.in_ok-more.next.0 = group-got _ _ _ _ _ c.in_ok-more.ensures.told in
    let f : v.0 ≡ true = h.0 ∙ c.if-not-more.false in
    (c.loop-more.invariant.0, putting-more no_address address address_octets TypedAddress 80 address-long nothing fine (bits_in c.args.s) 16 c.args.left _ _ _ _ c.loop-more.invariant.1 c.loop-more.invariant.0 address-lawful _ v.1 c.list-1.given.0 h.1 h.2 _ (rw f at g))
