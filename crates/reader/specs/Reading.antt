-- Reading a datagram: what document 01 makes of every octet string, with its refusals in their order.
use Rattle.std.specs.Prelude.{ℕ, zero, suc, ◌-◌, Bool, false, List, [], length, drop, leb, eqb}
use Rattle.bits.specs.Bits.{bits_of}
use Rattle.bits.specs.Units.{whole_octets, fill_bits, datagram_limit}
use Rattle.codec.specs.Answer.{Answer, got, refused, next, pick}
use Rattle.codec.specs.Codec.{must}
use Rattle.codec.specs.Verdict.{Verdict, whether}
use Rattle.header.specs.Table.{wire}
use Rattle.header.specs.Rules.{◌⇒◌, setting_of}
use Rattle.header.specs.Sizes.{judgement}
use Rattle.header.specs.declared.Header.{Header}
use Rattle.header.specs.declared.Wire.{Wire}
use Rattle.optional.specs.declared.OptionalNumber.{OptionalNumber}

-- the record and the header's octets; or the refusal's number, the bit place and the block
pub data Reading : Type 0 where
  accepted : Header → ℕ → Reading
  rejected : ℕ → ℕ → ℕ → Reading

-- the record of what the bits hold: of the header size only its presence
abbrev pub record_of : Wire → Header
record_of w = record { front = w.front; sized = w.size.present; blocks = w.blocks }

-- n fill bits from place p on: the first that is 1 is refused
unfoldable pub read_fill : ℕ → List Bool → ℕ → Answer Bool
read_fill zero bs p = got false p
read_fill (suc n) bs p = next ((must false 9).read bs p) (λ b q. read_fill n bs q)

-- the rules and the sizes of the record that is handed back, with the header size beside it, which has to equal the header's octets
unfoldable pub verdict_on : Header → OptionalNumber → ℕ → ℕ → Verdict
verdict_on h size octets behind = judgement (setting_of h) (size.present ⇒ eqb size.value octets) behind h.blocks

-- accepted where nothing is refused
unfoldable pub accepted_by : Verdict → Header → ℕ → Reading
accepted_by v h octets = whether v.number (accepted h octets) (rejected v.number 0 v.block)

-- behind the fill bits: the rules, then the sizes
unfoldable pub settled : Wire → ℕ → ℕ → Reading
settled w octets behind = accepted_by (verdict_on (record_of w) w.size octets behind) (record_of w) octets

-- behind the fields: the fill bits
unfoldable pub filled : List ℕ → Wire → ℕ → Answer Bool → Reading
filled s w end (refused f p) = rejected f p 0
filled s w end (got b p) = settled w (whole_octets end) (length s - whole_octets end)

unfoldable pub judged : List ℕ → Answer Wire → Reading
judged s (refused f p) = rejected f p 0
judged s (got w end) = filled s w end (read_fill (fill_bits end) (bits_of s) end)

-- the length first, then the fields from the left
unfoldable pub reading : List ℕ → Reading
reading s = pick (leb (length s) datagram_limit) (judged s (wire.read (bits_of s) 0)) (rejected 12 0 0)

-- the user data: what follows the header, and nothing behind a refused one
unfoldable pub behind_header : List ℕ → Reading → List ℕ
behind_header s (accepted h n) = drop n s
behind_header s (rejected f p b) = []

abbrev pub user_data : List ℕ → List ℕ
user_data s = behind_header s (reading s)
