-- Document 01's sameness of two records: whatever is used in the one is used in the other and holds the same; a cell that is not used may hold anything.
-- Structure by structure, in the record's order; a field that is always present and has no unused cell is compared as it stands. (`same_array` asks
-- for equally many cells too: the arrays of the declared types always have their 64, 16 or 4.)
use Rattle.std.specs.Prelude.{◌≡◌}
use mathlib.Core.List.{Forall₂}
use Rattle.codec.specs.Same.{◌and◌, same_optional, same_array}
use Rattle.optional.specs.declared.OptionalNumber.{OptionalNumber}
use Rattle.text.specs.declared.Text.{Text}
use Rattle.header.specs.Table.{front, blocks}
use Rattle.header.specs.declared.OptionalText.{OptionalText}
use Rattle.header.specs.declared.Address.{Address}
use Rattle.header.specs.declared.Addresses.{Addresses}
use Rattle.header.specs.declared.OptionalAddress.{OptionalAddress}
use Rattle.header.specs.declared.OptionalAddresses.{OptionalAddresses}
use Rattle.header.specs.declared.Front.{Front}
use Rattle.header.specs.declared.OptionalDtg.{OptionalDtg}
use Rattle.header.specs.declared.Stamp.{Stamp}
use Rattle.header.specs.declared.OptionalStamp.{OptionalStamp}
use Rattle.header.specs.declared.Identity.{Identity}
use Rattle.header.specs.declared.OptionalIdentity.{OptionalIdentity}
use Rattle.header.specs.declared.Format.{Format}
use Rattle.header.specs.declared.Handling.{Handling}
use Rattle.header.specs.declared.OptionalRequests.{OptionalRequests}
use Rattle.header.specs.declared.Times.{Times}
use Rattle.header.specs.declared.Compliance.{Compliance}
use Rattle.header.specs.declared.Response.{Response}
use Rattle.header.specs.declared.OptionalResponse.{OptionalResponse}
use Rattle.header.specs.declared.Reference.{Reference}
use Rattle.header.specs.declared.References.{References}
use Rattle.header.specs.declared.OptionalReferences.{OptionalReferences}
use Rattle.header.specs.declared.Block.{Block}
use Rattle.header.specs.declared.Blocks.{Blocks}
use Rattle.header.specs.declared.Header.{Header}

unfoldable pub same_number : OptionalNumber → OptionalNumber → Type 0
same_number x y = same_optional ◌≡◌ (x.present, x.value) (y.present, y.value)

-- the used characters agree
unfoldable pub same_text : Text → Text → Type 0
same_text x y = same_array ◌≡◌ (x.chars, x.len) (y.chars, y.len)

unfoldable pub same_optional_text : OptionalText → OptionalText → Type 0
same_optional_text x y = same_optional same_text (x.present, x.text) (y.present, y.text)

unfoldable pub same_address : Address → Address → Type 0
same_address x y = same_number x.urn y.urn and same_optional_text x.name y.name

-- the used addresses are the same, one by one
unfoldable pub same_addresses : Addresses → Addresses → Type 0
same_addresses x y = same_array (Forall₂ same_address) (x.list, x.count) (y.list, y.count)

unfoldable pub same_optional_address : OptionalAddress → OptionalAddress → Type 0
same_optional_address x y = same_optional same_address (x.present, x.address) (y.present, y.address)

unfoldable pub same_optional_addresses : OptionalAddresses → OptionalAddresses → Type 0
same_optional_addresses x y = same_optional same_addresses (x.present, x.addresses) (y.present, y.addresses)

unfoldable pub same_front : Front → Front → Type 0
same_front x y =
    (x.version ≡ y.version and same_number x.compression y.compression and same_optional_address x.originator y.originator)
    and same_optional_addresses x.recipients y.recipients
    and same_optional_addresses x.information y.information

-- a DTG has no unused cell
unfoldable pub same_optional_dtg : OptionalDtg → OptionalDtg → Type 0
same_optional_dtg x y = same_optional ◌≡◌ (x.present, x.dtg) (y.present, y.dtg)

unfoldable pub same_stamp : Stamp → Stamp → Type 0
same_stamp x y = x.dtg ≡ y.dtg and same_number x.extension y.extension

unfoldable pub same_optional_stamp : OptionalStamp → OptionalStamp → Type 0
same_optional_stamp x y = same_optional same_stamp (x.present, x.stamp) (y.present, y.stamp)

unfoldable pub same_identity : Identity → Identity → Type 0
same_identity x y = x.fad ≡ y.fad and x.number ≡ y.number and same_number x.subtype y.subtype

unfoldable pub same_optional_identity : OptionalIdentity → OptionalIdentity → Type 0
same_optional_identity x y = same_optional same_identity (x.present, x.identity) (y.present, y.identity)

unfoldable pub same_format : Format → Format → Type 0
same_format x y =
    x.umf ≡ y.umf
    and same_number x.version y.version
    and same_optional_identity x.identity y.identity
    and same_optional_text x.file y.file

-- the codes have no unused cell
unfoldable pub same_handling : Handling → Handling → Type 0
same_handling x y = same_number x.size y.size and x.codes ≡ y.codes and same_optional_text x.marking y.marking

-- nor have the requests
unfoldable pub same_optional_requests : OptionalRequests → OptionalRequests → Type 0
same_optional_requests x y = same_optional ◌≡◌ (x.present, x.requests) (y.present, y.requests)

unfoldable pub same_times : Times → Times → Type 0
same_times x y =
    same_optional_stamp x.origin y.origin and same_optional_dtg x.perish y.perish and same_optional_requests x.requests y.requests

unfoldable pub same_compliance : Compliance → Compliance → Type 0
same_compliance x y = x.code ≡ y.code and same_number x.cantco y.cantco and same_number x.cantpro y.cantpro

unfoldable pub same_response : Response → Response → Type 0
same_response x y =
    same_stamp x.stamp y.stamp and same_compliance x.compliance y.compliance and same_optional_text x.amplification y.amplification

unfoldable pub same_optional_response : OptionalResponse → OptionalResponse → Type 0
same_optional_response x y = same_optional same_response (x.present, x.response) (y.present, y.response)

unfoldable pub same_reference : Reference → Reference → Type 0
same_reference x y = same_address x.address y.address and same_stamp x.stamp y.stamp

-- the used entries are the same, one by one
unfoldable pub same_references : References → References → Type 0
same_references x y = same_array (Forall₂ same_reference) (x.list, x.count) (y.list, y.count)

unfoldable pub same_optional_references : OptionalReferences → OptionalReferences → Type 0
same_optional_references x y = same_optional same_references (x.present, x.references) (y.present, y.references)

unfoldable pub same_block : Block → Block → Type 0
same_block x y =
    (same_format x.format y.format and same_handling x.handling y.handling and same_times x.times y.times)
    and same_optional_response x.response y.response
    and same_optional_references x.references y.references

-- the used blocks are the same, one by one
unfoldable pub same_blocks : Blocks → Blocks → Type 0
same_blocks x y = same_array (Forall₂ same_block) (x.list, x.count) (y.list, y.count)

unfoldable pub Same : Header → Header → Type 0
Same x y = same_front x.front y.front and x.sized ≡ y.sized and same_blocks x.blocks y.blocks

-- the record with its unused cells 0, which are the same cells in both versions
unfoldable pub header_norm : Header → Header
header_norm h = record { front = front.norm h.front; sized = h.sized; blocks = (blocks h.front.version).norm h.blocks }
