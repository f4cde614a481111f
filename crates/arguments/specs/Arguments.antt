-- What a call is given, and what its arguments alone say: the refusals that need no table, or what the call names.
use Rattle.std.specs.Prelude.{ℕ, zero, suc, Bool, cond, ◌&&◌, List, [], map, take, get_or, leb, eqb}
use Rattle.std.proofs.Common.{inl, inr}
use Rattle.std.proofs.Math.Option.{Option, none, some}
use Rattle.codec.specs.Answer.{pick}
use Rattle.codec.specs.Codec.{first}
use Rattle.codec.specs.Verdict.{Verdict, plain, whether, first_of}
use Rattle.header.specs.Table.{address, stamp}
use Rattle.header.specs.Zero.{no_address, no_block}
use Rattle.header.specs.declared.Address.{Address as DeclaredAddress}
use Rattle.header.specs.declared.Block.{Block}
use Rattle.header.specs.declared.Header.{Header}
use Rattle.writer.specs.Writing.{fault_of}
use Rattle.order.specs.Values.{Address, address_of, Key, key_of, key_fault}
use Rattle.order.specs.Requests.{any_of, ask_of}
use Rattle.calls.specs.Operations.{post, receipt, release}
use Rattle.order.specs.Calls.{Operation, Call, make}
use Rattle.order.specs.declared.Key.{Key as DeclaredKey}

-- a call's arguments: a record, a block number and the count of user data; or a key
pub data Arguments : Type 0 where
  posting : Header → ℕ → ℕ → Arguments
  receiving : Header → ℕ → ℕ → Arguments
  releasing : DeclaredKey → Arguments

-- ---- the parts of a record that a call looks at

-- whether there is a block with this number, counted from 1, and that block
abbrev pub has_block : Header → ℕ → Bool
has_block h n = leb 1 n && leb n h.blocks.count

unfoldable pub block_at : Header → ℕ → Block
block_at h zero = no_block
block_at h (suc i) = get_or h.blocks.list i no_block

-- the requests of G7: none where it is absent
abbrev pub asks : Block → Bool
asks b = b.times.requests.present && any_of (ask_of b.times.requests.requests)

-- the recipients of G2: none where it is absent
unfoldable pub recipients_of : Header → List DeclaredAddress
recipients_of h = pick h.front.recipients.present (take h.front.recipients.addresses.count h.front.recipients.addresses.list) []

abbrev pub some_recipient : Header → Bool
some_recipient h = h.front.recipients.present && leb 1 h.front.recipients.addresses.count

-- G2 has exactly one entry, and that entry
abbrev pub one_recipient : Header → Bool
one_recipient h = h.front.recipients.present && eqb h.front.recipients.addresses.count 1

abbrev pub first_recipient : Header → DeclaredAddress
first_recipient h = get_or h.front.recipients.addresses.list 0 no_address

-- a posting's key: G1's address with G5's DTG and extension; a receipt's: its one recipient with G8's
abbrev pub posting_key : Header → Block → DeclaredKey
posting_key h b = record { address = h.front.originator.address; stamp = b.times.origin.stamp }

abbrev pub receipt_key : Header → Block → DeclaredKey
receipt_key h b = record { address = first_recipient h; stamp = b.response.response.stamp }

-- ---- the refusals that the arguments alone decide, in their order; only the record's own may tell a block

-- of a posting: the record's own, 29, 20, 21
unfoldable pub posting_fault : Header → ℕ → ℕ → Verdict
posting_fault h n count =
    first_of (fault_of h count)
    (plain (first (pick (has_block h n) 0 29) (first (pick (asks (block_at h n)) 0 20) (pick (some_recipient h) 0 21))))

-- of a receipt: the record's own, 29, 24, 25
unfoldable pub receipt_fault : Header → ℕ → ℕ → Verdict
receipt_fault h n count =
    first_of (fault_of h count)
    (plain (first (pick (has_block h n) 0 29) (first (pick (block_at h n).response.present 0 24) (pick (h.front.originator.present && one_recipient h) 0 25))))

-- ---- what the call names, where it is not refused

abbrev pub named : Verdict → Operation → Call
named v d = whether v.number (inr d) (inl v)

unfoldable pub call_of : Arguments → Call
call_of (posting h n count) =
    named (posting_fault h n count)
    (post (key_of (posting_key h (block_at h n))) (make (ask_of (block_at h n).times.requests.requests) (map address_of (recipients_of h))))
call_of (receiving h n count) =
    named (receipt_fault h n count)
    (receipt (key_of (receipt_key h (block_at h n))) (address_of h.front.originator.address, (block_at h n).response.response.compliance.code))
call_of (releasing k) = named (plain (key_fault k)) (release (key_of k))

-- ---- a call's message: the key that it names, if it is a legal one (a call whose block, group or part is missing names none)

abbrev pub legal_key : DeclaredKey → Option Key
legal_key k = cond (eqb (key_fault k) 0) (some (key_of k)) none

unfoldable pub message : Arguments → Option Key
message (posting h n count) =
    cond (has_block h n && h.front.originator.present && (block_at h n).times.origin.present) (legal_key (posting_key h (block_at h n))) none
message (receiving h n count) = cond (has_block h n && one_recipient h && (block_at h n).response.present) (legal_key (receipt_key h (block_at h n))) none
message (releasing k) = legal_key k

-- a receipt's answerer: its originator
unfoldable pub answerer : Header → Option Address
answerer h = cond h.front.originator.present (some (address_of h.front.originator.address)) none
