-- `writer::wire::write_header` meets its contract. Assumes nothing.
use borrow.Author.Rules.{rules}
use Prim.Native.Nat.{ℕ}
use native.Mathlib.Omega.{arith}
use Rattle.bits.proofs.OctetBits.{octets-of}
use Rattle.record_octets.specs.Record.{header_in}
use Rattle.writer.proofs.Parts.{ends-alike, wire-legal, end-bounded, size-bounded}
use Rattle.writer.proofs.Packed.{header-packed}
use Rattle.writer.proofs.wire.write_header.Goals as goal

pub overflow_cast-size : goal.overflow_cast-size
overflow_cast-size c = let m = size-bounded (header_in c.args.h.now) c.requires.0 in let e = c.requires.1 in search rules

pub write_fields-end-requires : goal.write_fields-end-requires
write_fields-end-requires c =
    let h = header_in c.args.h.now in
    let m = end-bounded h c.requires.0 in
    let e = ends-alike h c.args.size.0 in
    (search rules, wire-legal h c.requires.0 c.args.size.0 (omega (arith, size-bounded h c.requires.0, c.requires.1)), c.requires.3)

pub write_fill-requires : goal.write_fill-requires
write_fill-requires c =
    let e = ends-alike (header_in c.args.h.now) c.args.size.0 in
    let q = c.write_fields-end.ensures.next in
    search rules

pub returns : goal.returns
returns c =
    header-packed (header_in c.args.h.now) _ _ _ c.args.size.0 _ c.requires.1
    c.write_fields-end.ensures c.write_fill.ensures
    (octets-of c.args.out.now (λ (i : ℕ) l. omega (arith, c.slice_known-1.given i)))
    (octets-of c.write_fill.new.out (λ (i : ℕ) l. omega (arith, c.slice_known-3-1.given i)))
