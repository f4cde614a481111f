-- Writing a record: what document 01 makes of every record, count of user data and output, with its refusals in their order.
use Rattle.std.specs.Prelude.{ℕ, ◌+◌, ◌≡◌, Bool, true, false, List, ◌++◌, drop, replicate, leb, Result, Ok, Err}
use Rattle.bits.specs.Bits.{octets}
use Rattle.bits.specs.Units.{whole_octets, fill_bits, datagram_limit}
use Rattle.bits.specs.declared.OctetSize.{OctetSize}
use Rattle.codec.specs.Answer.{pick}
use Rattle.codec.specs.Codec.{first}
use Rattle.codec.specs.Refusals.{fault_no}
use Rattle.codec.specs.Verdict.{Verdict, plain, whether, first_of}
use Rattle.codec.specs.declared.Fault.{Fault}
use Rattle.codec.specs.declared.Refusal.{Refusal}
use Rattle.header.specs.Table.{front, blocks, wire}
use Rattle.header.specs.Rules.{setting_of}
use Rattle.header.specs.Sizes.{judgement}
use Rattle.header.specs.declared.Header.{Header}
use Rattle.header.specs.declared.Wire.{Wire}

-- what the bits hold of a record, n being the header size where there is one
abbrev pub wire_of : Header → ℕ → Wire
wire_of h n = record { front = h.front; size = record { present = h.sized; value = n }; blocks = h.blocks }

-- the place behind the fields; the header size has its 16 bits whatever its number
abbrev pub fields_end : Header → ℕ
fields_end h = wire.size (wire_of h 0)

-- the header's octets
abbrev pub header_size : Header → ℕ
header_size h = whole_octets (fields_end h)

-- the header's bits: every field, the header size filled in, and fill bits 0
unfoldable pub header_bits : Header → List Bool
header_bits h = wire.write (wire_of h (header_size h)) ++ replicate (fill_bits (fields_end h)) false

-- the header of a record
unfoldable pub header_of : Header → List ℕ
header_of h = octets (header_size h) (header_bits h)

-- the first refusal of the fields, in their order; 0 for none
abbrev pub fields_fault : Header → ℕ
fields_fault h = first (front.check h.front) ((blocks h.front.version).check h.blocks)

-- the rules and the sizes of a record with so many octets of user data. The header size is written as the header's octets, so that it holds
abbrev pub record_verdict : Header → ℕ → Verdict
record_verdict h count = judgement (setting_of h) true count h.blocks

-- the first refusal of a record with so many octets of user data: the fields, the rules, the sizes, the datagram's length
unfoldable pub fault_of : Header → ℕ → Verdict
fault_of h count =
    first_of (plain (fields_fault h)) (first_of (record_verdict h count) (plain (pick (leb (header_size h + count) datagram_limit) 0 12)))

-- document 01's "valid" of a record with so many octets of user data: there is no such refusal. (Room in an output, 11, is no matter of the record.)
abbrev pub ValidRecord : Header → ℕ → Type 0
ValidRecord h count = (fault_of h count).number ≡ 0

-- the header's octets; or the refusal's number, the place, which is 0, and the block
pub data Writing : Type 0 where
  done : ℕ → Writing
  rejected : ℕ → ℕ → ℕ → Writing

-- the answer by the refusal
unfoldable pub answered : Verdict → ℕ → Writing
answered v n = whether v.number (done n) (rejected v.number 0 v.block)

-- the check alone
unfoldable pub checking : Header → ℕ → Writing
checking h count = answered (fault_of h count) (header_size h)

-- writing into `room` octets of output
unfoldable pub writing : Header → ℕ → ℕ → Writing
writing h count room = answered (first_of (fault_of h count) (plain (pick (leb (header_size h) room) 0 11))) (header_size h)

-- the output after the call: the header and the rest as it was; refused, all as it was
unfoldable pub output_after : Header → Writing → List ℕ → List ℕ
output_after h (done n) out = header_of h ++ drop n out
output_after h (rejected f p b) out = out

-- what the answer of `check` and `write` tells
unfoldable pub told : Result OctetSize (Refusal Fault) → Writing
told (Ok n) = done n.0
told (Err e) = rejected (fault_no e.fault) e.place.0 e.block.0
