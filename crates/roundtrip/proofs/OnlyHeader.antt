-- Demand 2, second part: a record's header is the only one. Any accepted datagram whose record is the same record begins with the octets that the record is
-- written as. The hypotheses: the datagram is a string of octets (every slice of `u8` is), it is accepted, and its record is the same. Assumes nothing else.
use Prim.Native.Nat.{ℕ}
use mathlib.Core.Path.{◌≡◌, sym, ◌∙◌}
use mathlib.Core.List.{List}
use lib.ListN.{length, take}
use Rattle.bits.specs.Bits.{AllOctets}
use Rattle.header.specs.Same.{Same}
use Rattle.header.specs.declared.Header.{Header}
use Rattle.reader.specs.Reading.{reading, accepted, user_data}
use Rattle.writer.specs.Writing.{header_of}
use Rattle.writer.proofs.Ways.{valid-fields}
use Rattle.roundtrip.proofs.SameRecords.{same-header}
use Rattle.roundtrip.proofs.WrittenAgain as again

pub only-header : (h x : Header) (s : List ℕ) (n : ℕ) → AllOctets s → reading s ≡ accepted x n → Same x h → take n s ≡ header_of h
only-header h x s n octets e same =
    sym (again.same-header s octets n x e) ∙ same-header x h same (valid-fields x (length (user_data s)) (again.record-valid s octets n x e))
