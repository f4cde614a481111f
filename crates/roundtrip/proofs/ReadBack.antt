-- Demand 2, first part: every valid record is, given room, written as its header, and the header followed by ANY user data of that count is read back as
-- the same record; the header's length that the reading tells is the count that the writing returned. The hypotheses: the record is valid with the count
-- (`check` tells this of any record), and the output has room. Assumes nothing else.
use Prim.Native.Nat.{ℕ, ◌+◌, ◌-◌, ◌≤◌}
use mathlib.Core.Path.{◌≡◌, refl, ap, ap₂, sym, ◌∙◌}
use mathlib.Core.Bool.{Bool, true, false}
use mathlib.Core.List.{List, ◌++◌, append_assoc}
use lib.ListN.{length, drop, replicate, length-append}
use lib.Seq.{drop_at}
use lib.Dec.{eqb}
use borrow.Author.Tests.{le-leb, eq-eqb}
use native.Mathlib.Omega.{arith}
use Rattle.bits.specs.Bits.{bits_of}
use Rattle.bits.specs.Units.{fill_bits, datagram_limit}
use Rattle.bits.proofs.OctetBits.{bits_of-append}
use Rattle.bits.proofs.Packing.{bits-octets, length-octets}
use Rattle.codec.specs.Answer.{got}
use Rattle.codec.specs.Codec.{number, flag, nothing, present, viewed, ◌then_by◌}
use Rattle.codec.proofs.Lawful.{read-back}
use Rattle.optional.specs.Optionals.{optional_number}
use Rattle.header.specs.Table.{wire}
use Rattle.header.specs.Rules.{◌⇒◌, setting_of}
use Rattle.header.specs.Same.{header_norm}
use Rattle.header.specs.declared.Header.{Header}
use Rattle.header.specs.declared.Wire.{Wire}
use Rattle.header.proofs.Lawful.{wire-lawful}
use Rattle.header.proofs.Same.{norm-same}
use Rattle.header.proofs.Unused.{same-setting, judgement-norm}
use Rattle.reader.specs.Reading.{accepted, read_fill, verdict_on, accepted_by, settled, filled, judged, reading, behind_header}
use Rattle.writer.specs.Writing.{wire_of, fields_end, header_size, header_bits, header_of, ValidRecord, done}
use Rattle.writer.proofs.Parts.{wire-legal, size-bounded}
use Rattle.writer.proofs.Packed.{fields-length, header-length}
use Rattle.writer.proofs.Ways.{is-written}
use Rattle.writer.proofs.Valid.{Valid, valid-parts}
use Rattle.roundtrip.specs.Inverse.{ReadAs, WrittenAs}
use Rattle.roundtrip.proofs.Zeros.{fill-read}

pub header-octets : (h : Header) → length (header_of h) ≡ header_size h
unfolding header_of
header-octets h = length-octets (header_size h) (header_bits h)

-- a header size that is there is the header's octets
size-filled : (b : Bool) (n : ℕ) → (b ⇒ eqb ((present 0 (number 16 0 65535 3) b).norm n) n) ≡ true
unfolding present nothing number
size-filled true n = eq-eqb n n refl
size-filled false n = refl

module _ (h : Header) (count : ℕ) (valid : ValidRecord h count) where
  v : Valid h count
  v = valid-parts h count valid

  n : ℕ
  n = header_size h

  held : Wire
  held = wire_of h (header_size h)

  legal : wire.check (wire_of h (header_size h)) ≡ 0
  legal = wire-legal h v.fields (header_size h) (omega (arith, size-bounded h v.fields))

  module _ (d : List ℕ) (many : length d ≡ count) where
    abbrev tail : List Bool
    tail = replicate (fill_bits (fields_end h)) false ++ bits_of d

    all-bits : bits_of (header_of h ++ d) ≡ wire.write (wire_of h (header_size h)) ++ tail
    unfolding header_of header_bits
    all-bits =
        bits_of-append (header_of h) d
        ∙ ap (λ (l : List Bool). l ++ bits_of d) (bits-octets (header_size h) (header_bits h) (header-length h))
        ∙ append_assoc (wire.write (wire_of h (header_size h))) (replicate (fill_bits (fields_end h)) false) (bits_of d)

    long : length (header_of h ++ d) ≡ header_size h + count
    long = length-append (header_of h) d ∙ ap₂ ◌+◌ (header-octets h) many

    got-wire : wire.read (bits_of (header_of h ++ d)) 0 ≡ got (wire.norm (wire_of h (header_size h))) (fields_end h)
    got-wire = rw all-bits (read-back wire-lawful (wire_of h (header_size h)) tail legal ∙ ap (got (wire.norm (wire_of h (header_size h)))) (fields-length h))

    got-fill : read_fill (fill_bits (fields_end h)) (bits_of (header_of h ++ d)) (fields_end h) ≡ got false (fields_end h + fill_bits (fields_end h))
    got-fill = fill-read (fill_bits (fields_end h)) (bits_of (header_of h ++ d)) (bits_of d) (fields_end h)
        (ap (drop (fields_end h)) all-bits ∙ drop_at (wire.write (wire_of h (header_size h))) tail (fields_end h) (fields-length h))

    settles : settled (wire.norm (wire_of h (header_size h))) (header_size h) (length (header_of h ++ d) - header_size h) ≡ accepted (header_norm h) (header_size h)
    unfolding settled accepted_by verdict_on wire viewed ◌then_by◌ optional_number flag header_norm
    settles =
        let b : length (header_of h ++ d) - header_size h ≡ count = omega (arith, long) in
        rw (b, same-setting h, size-filled h.sized (header_size h), judgement-norm h.front.version (setting_of h) true count h.blocks, v.judged)

    pub reads-back : reading (header_of h ++ d) ≡ accepted (header_norm h) (header_size h)
    unfolding reading judged filled
    reads-back =
        rw (le-leb (length (header_of h ++ d)) datagram_limit (omega (arith, long, v.short)), got-wire, got-fill) settles

    clean : header_norm (header_norm h) ≡ header_norm h
    unfolding header_norm wire viewed ◌then_by◌
    clean =
        let c = (wire-lawful.accepted (bits_of (header_of h ++ d)) 0 (fields_end h) (wire.norm (wire_of h (header_size h))) got-wire).clean in
        λ i. record { front = ap (λ (w : Wire). w.front) c i; sized = h.sized; blocks = ap (λ (w : Wire). w.blocks) c i }

    -- read back, with any user data of that count
    pub read_as : ReadAs h (header_size h) d (header_of h ++ d)
    unfolding behind_header
    read_as =
        record {
          header = header_norm h;
          read = reads-back;
          same = norm-same h (header_norm h) (sym clean);
          behind = rw reads-back (drop_at (header_of h) d (header_size h) (header-octets h));
        }

  -- written, given room
  pub written-as : (out : List ℕ) → header_size h ≤ length out → WrittenAs h count (header_of h) out
  written-as out room =
      let w = is-written h count valid out room in
      record {
        answer = sym w.0 ∙ ap done (sym (header-octets h));
        output = sym w.1 ∙ ap (λ (k : ℕ). header_of h ++ drop k out) (sym (header-octets h));
      }
