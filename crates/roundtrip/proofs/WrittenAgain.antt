-- Demand 2, third part: every accepted datagram's record is valid with the count of its user data, and is written again as the octets of its header.
-- The hypotheses: the datagram is a string of octets (every slice of `u8` is), it is accepted, and the output has room. Assumes nothing else.
use Prim.Native.Nat.{ℕ, ◌+◌, ◌-◌, ◌≤◌}
use mathlib.Core.Path.{◌≡◌, refl, ap, ap₂, sym, ◌∙◌}
use mathlib.Core.Bool.{Bool, true, false}
use mathlib.Core.List.{List, ◌++◌, append_assoc}
use lib.ListN.{length, take, drop, replicate, length-append, length-drop, take-append-drop}
use lib.Seq.{take_at, length-take-le}
use lib.Dec.{eqb}
use borrow.Author.Tests.{le-leb, eqb-true}
use native.Mathlib.Omega.{arith}
use Rattle.bits.specs.Bits.{bits_of, splice, AllOctets}
use Rattle.bits.specs.Units.{fill_bits, datagram_limit}
use Rattle.bits.proofs.Packing.{packed}
use Rattle.codec.specs.Codec.{first, flag, nothing, present, viewed, ◌then_by◌}
use Rattle.codec.specs.Verdict.{first_of}
use Rattle.codec.proofs.Lawful.{Accepted as Read}
use Rattle.optional.specs.Optionals.{optional_number}
use Rattle.header.specs.Table.{maybe, front, blocks, wire}
use Rattle.header.specs.Rules.{◌⇒◌}
use Rattle.header.specs.declared.Header.{Header}
use Rattle.header.specs.declared.Wire.{Wire}
use Rattle.header.proofs.Lawful.{wire-lawful}
use Rattle.reader.specs.Reading.{reading, accepted, record_of, behind_header, user_data}
use Rattle.writer.specs.Writing.{wire_of, fields_end, header_size, header_bits, header_of, fault_of, ValidRecord}
use Rattle.writer.proofs.Parts.{ends-alike, wire-parts}
use Rattle.writer.proofs.Packed.{header-length}
use Rattle.roundtrip.specs.Inverse.{WrittenAs, ValidHeader}
use Rattle.roundtrip.proofs.Zeros.{fill-zero}
use Rattle.roundtrip.proofs.Parts.{Accepted, Known, accepted-parts}
use Rattle.roundtrip.proofs.ReadBack.{header-octets, written-as}

-- a header size that is there is the number that is filled in
size-bits : (b : Bool) (x n : ℕ) → (b ⇒ eqb x n) ≡ true → (maybe 16 0 65535).write (record { present = b; value = n }) ≡ (maybe 16 0 65535).write (record { present = b; value = x })
unfolding optional_number viewed ◌then_by◌ flag present nothing
size-bits true x n e = ap (λ (k : ℕ). (maybe 16 0 65535).write (record { present = true; value = k })) (sym (eqb-true x n e))
size-bits false x n e = refl

-- what was read, with the header size n where there is one, has the bits that were read
module _ (w : Wire) (n : ℕ) (size : (w.size.present ⇒ eqb w.size.value n) ≡ true) where
  again-bits : wire.write (wire_of (record_of w) n) ≡ wire.write w
  unfolding wire viewed ◌then_by◌
  again-bits = ap (λ (l : List Bool). front.write w.front ++ (l ++ (blocks w.front.version).write w.blocks)) (size-bits w.size.present w.size.value n size)

  again-end : fields_end (record_of w) ≡ length (wire.write w)
  again-end = sym (ends-alike (record_of w) n) ∙ sym (wire-lawful.sized (wire_of (record_of w) n)) ∙ ap length again-bits

module _ (s : List ℕ) (octets : AllOctets s) (n : ℕ) where
  module _ (a : Accepted s n) where
    abbrev w : Wire
    w = a.held

    read : Read wire (bits_of s) 0 a.end w
    read = wire-lawful.accepted (bits_of s) 0 a.end w a.got-wire

    ends : fields_end (record_of w) ≡ a.end
    ends = omega (arith, again-end w n a.size, read.ends)

    sized : header_size (record_of w) ≡ n
    sized = omega (arith, ends, a.octets)

    bits : bits_of s ≡ splice (bits_of s) 0 (header_bits (record_of w))
    unfolding header_bits splice
    bits =
        let k : a.end + fill_bits a.end ≡ 0 + length (header_bits (record_of w)) = omega (arith, header-length (record_of w), sized, a.octets) in
        read.same
        ∙ ap₂ ◌++◌ (sym (again-bits w n a.size) ∙ ap (λ (m : ℕ). wire.write (wire_of (record_of w) m)) (sym sized)) (fill-zero (fill_bits a.end) (bits_of s) a.end a.behind a.bit a.got-fill)
        ∙ ap₂ (λ (m j : ℕ). wire.write (wire_of (record_of w) (header_size (record_of w))) ++ (replicate (fill_bits m) false ++ drop j (bits_of s))) (sym ends) k
        ∙ sym (append_assoc (wire.write (wire_of (record_of w) (header_size (record_of w)))) (replicate (fill_bits (fields_end (record_of w))) false) (drop (0 + length (header_bits (record_of w))) (bits_of s)))

    begins : s ≡ header_of (record_of w) ++ drop (header_size (record_of w)) s
    unfolding header_of
    begins = packed s s (header_size (record_of w)) (header_bits (record_of w)) octets octets (header-length (record_of w)) bits

    within : n ≤ length s
    within = omega (arith, sized, header-octets (record_of w), length-append (header_of (record_of w)) (drop (header_size (record_of w)) s), ap length begins)

    header : header_of (record_of w) ≡ take n s
    header = sym (ap (take n) begins ∙ take_at (header_of (record_of w)) (drop (header_size (record_of w)) s) n (header-octets (record_of w) ∙ sized))

    valid : ValidRecord (record_of w) (length s - n)
    unfolding fault_of first_of first
    valid =
        let p = wire-parts w read.legal in
        rw (p.0, p.1, a.right, le-leb (header_size (record_of w) + (length s - n)) datagram_limit (omega (arith, sized, within, a.short)))

  module _ (h : Header) (e : reading s ≡ accepted h n) where
    known : Known s h n
    known = accepted-parts s h n e

    -- the user data are the octets behind the header
    pub data-count : length (user_data s) ≡ length s - n
    unfolding behind_header
    data-count = rw e (length-drop n s)

    pub record-valid : ValidRecord h (length (user_data s))
    record-valid = rw (data-count, known.1) (valid known.0)

    pub same-header : header_of h ≡ take n s
    same-header = rw known.1 (header known.0)

    pub header-size : header_size h ≡ n
    header-size = rw known.1 (sized known.0)

    pub header-within : n ≤ length s
    header-within = within known.0

    -- written again as the same octets, given room
    pub written-again : (out : List ℕ) → n ≤ length out → WrittenAs h (length (user_data s)) (take n s) out
    written-again out room = rw (← same-header) (written-as h (length (user_data s)) record-valid out (omega (arith, header-size)))

    -- the octets of an accepted header are a valid header
    pub header-valid : ValidHeader (take n s)
    header-valid =
        record { behind = drop n s; header = h; read = rw (take-append-drop n s, length-take-le n s header-within) e }
