-- What the octets of a record hold, and the octets of a record, struct by struct: each is about the octets that are the struct's own. Any octets are
-- some record. Written by layout/generate.py.
use Rattle.std.specs.Prelude.{ℕ, List, ◌++◌}
use Rattle.cells.specs.Cells.{part, word_in, word_octets, flag_in, flag_octets, mark_octets, many, many_octets}
use Rattle.optional.specs.declared.OptionalNumber.{OptionalNumber}
use Rattle.text.specs.declared.Text.{Text}
use Rattle.header.specs.declared.OptionalText.{OptionalText}
use Rattle.header.specs.declared.Address.{Address}
use Rattle.header.specs.declared.OptionalAddress.{OptionalAddress}
use Rattle.header.specs.declared.Addresses.{Addresses}
use Rattle.header.specs.declared.OptionalAddresses.{OptionalAddresses}
use Rattle.header.specs.declared.Front.{Front}
use Rattle.header.specs.declared.Date.{Date}
use Rattle.header.specs.declared.Time.{Time}
use Rattle.header.specs.declared.Dtg.{Dtg}
use Rattle.header.specs.declared.OptionalDtg.{OptionalDtg}
use Rattle.header.specs.declared.Stamp.{Stamp}
use Rattle.header.specs.declared.OptionalStamp.{OptionalStamp}
use Rattle.header.specs.declared.Identity.{Identity}
use Rattle.header.specs.declared.OptionalIdentity.{OptionalIdentity}
use Rattle.header.specs.declared.Format.{Format}
use Rattle.header.specs.declared.Codes.{Codes}
use Rattle.header.specs.declared.Handling.{Handling}
use Rattle.header.specs.declared.Requests.{Requests}
use Rattle.header.specs.declared.OptionalRequests.{OptionalRequests}
use Rattle.header.specs.declared.Times.{Times}
use Rattle.header.specs.declared.Compliance.{Compliance}
use Rattle.header.specs.declared.Response.{Response}
use Rattle.header.specs.declared.OptionalResponse.{OptionalResponse}
use Rattle.header.specs.declared.Reference.{Reference}
use Rattle.header.specs.declared.References.{References}
use Rattle.header.specs.declared.OptionalReferences.{OptionalReferences}
use Rattle.header.specs.declared.Block.{Block}
use Rattle.header.specs.declared.Blocks.{Blocks}
use Rattle.header.specs.declared.Header.{Header}

abbrev pub size_of_optional_number : ℕ
size_of_optional_number = 8

unfoldable pub optional_number_in : List ℕ → OptionalNumber
optional_number_in s = record { present = flag_in (part 0 4 s); value = word_in (part 4 4 s) }

unfoldable pub optional_number_octets : OptionalNumber → List ℕ
optional_number_octets x = mark_octets x.present ++ word_octets x.value

abbrev pub size_of_text : ℕ
size_of_text = 68

unfoldable pub text_in : List ℕ → Text
text_in s = record { chars = part 0 64 s; len = word_in (part 64 4 s) }

unfoldable pub text_octets : Text → List ℕ
text_octets x = x.chars ++ word_octets x.len

abbrev pub size_of_optional_text : ℕ
size_of_optional_text = 72

unfoldable pub optional_text_in : List ℕ → OptionalText
optional_text_in s = record { present = flag_in (part 0 4 s); text = text_in (part 4 68 s) }

unfoldable pub optional_text_octets : OptionalText → List ℕ
optional_text_octets x = mark_octets x.present ++ text_octets x.text

abbrev pub size_of_address : ℕ
size_of_address = 80

unfoldable pub address_in : List ℕ → Address
address_in s = record { urn = optional_number_in (part 0 8 s); name = optional_text_in (part 8 72 s) }

unfoldable pub address_octets : Address → List ℕ
address_octets x = optional_number_octets x.urn ++ optional_text_octets x.name

abbrev pub size_of_optional_address : ℕ
size_of_optional_address = 84

unfoldable pub optional_address_in : List ℕ → OptionalAddress
optional_address_in s = record { present = flag_in (part 0 4 s); address = address_in (part 4 80 s) }

unfoldable pub optional_address_octets : OptionalAddress → List ℕ
optional_address_octets x = mark_octets x.present ++ address_octets x.address

abbrev pub size_of_addresses : ℕ
size_of_addresses = 1284

unfoldable pub addresses_in : List ℕ → Addresses
addresses_in s = record { list = many address_in 80 16 (part 0 1280 s); count = word_in (part 1280 4 s) }

unfoldable pub addresses_octets : Addresses → List ℕ
addresses_octets x = many_octets address_octets x.list ++ word_octets x.count

abbrev pub size_of_addresses_list : ℕ
size_of_addresses_list = 1280

-- of the octets of the list, and a count
abbrev pub addresses_of : List ℕ → ℕ → Addresses
addresses_of s n = record { list = many address_in 80 16 s; count = n }

abbrev pub size_of_optional_addresses : ℕ
size_of_optional_addresses = 1288

unfoldable pub optional_addresses_in : List ℕ → OptionalAddresses
optional_addresses_in s = record { present = flag_in (part 0 4 s); addresses = addresses_in (part 4 1284 s) }

unfoldable pub optional_addresses_octets : OptionalAddresses → List ℕ
optional_addresses_octets x = mark_octets x.present ++ addresses_octets x.addresses

abbrev pub size_of_front : ℕ
size_of_front = 2672

unfoldable pub front_in : List ℕ → Front
front_in s = record { version = word_in (part 0 4 s); compression = optional_number_in (part 4 8 s); originator = optional_address_in (part 12 84 s); recipients = optional_addresses_in (part 96 1288 s); information = optional_addresses_in (part 1384 1288 s) }

unfoldable pub front_octets : Front → List ℕ
front_octets x = word_octets x.version ++ optional_number_octets x.compression ++ optional_address_octets x.originator ++ optional_addresses_octets x.recipients ++ optional_addresses_octets x.information

abbrev pub size_of_date : ℕ
size_of_date = 12

unfoldable pub date_in : List ℕ → Date
date_in s = record { year = word_in (part 0 4 s); month = word_in (part 4 4 s); day = word_in (part 8 4 s) }

unfoldable pub date_octets : Date → List ℕ
date_octets x = word_octets x.year ++ word_octets x.month ++ word_octets x.day

abbrev pub size_of_time : ℕ
size_of_time = 12

unfoldable pub time_in : List ℕ → Time
time_in s = record { hour = word_in (part 0 4 s); minute = word_in (part 4 4 s); second = word_in (part 8 4 s) }

unfoldable pub time_octets : Time → List ℕ
time_octets x = word_octets x.hour ++ word_octets x.minute ++ word_octets x.second

abbrev pub size_of_dtg : ℕ
size_of_dtg = 24

unfoldable pub dtg_in : List ℕ → Dtg
dtg_in s = record { date = date_in (part 0 12 s); time = time_in (part 12 12 s) }

unfoldable pub dtg_octets : Dtg → List ℕ
dtg_octets x = date_octets x.date ++ time_octets x.time

abbrev pub size_of_optional_dtg : ℕ
size_of_optional_dtg = 28

unfoldable pub optional_dtg_in : List ℕ → OptionalDtg
optional_dtg_in s = record { present = flag_in (part 0 4 s); dtg = dtg_in (part 4 24 s) }

unfoldable pub optional_dtg_octets : OptionalDtg → List ℕ
optional_dtg_octets x = mark_octets x.present ++ dtg_octets x.dtg

abbrev pub size_of_stamp : ℕ
size_of_stamp = 32

unfoldable pub stamp_in : List ℕ → Stamp
stamp_in s = record { dtg = dtg_in (part 0 24 s); extension = optional_number_in (part 24 8 s) }

unfoldable pub stamp_octets : Stamp → List ℕ
stamp_octets x = dtg_octets x.dtg ++ optional_number_octets x.extension

abbrev pub size_of_optional_stamp : ℕ
size_of_optional_stamp = 36

unfoldable pub optional_stamp_in : List ℕ → OptionalStamp
optional_stamp_in s = record { present = flag_in (part 0 4 s); stamp = stamp_in (part 4 32 s) }

unfoldable pub optional_stamp_octets : OptionalStamp → List ℕ
optional_stamp_octets x = mark_octets x.present ++ stamp_octets x.stamp

abbrev pub size_of_identity : ℕ
size_of_identity = 16

unfoldable pub identity_in : List ℕ → Identity
identity_in s = record { fad = word_in (part 0 4 s); number = word_in (part 4 4 s); subtype = optional_number_in (part 8 8 s) }

unfoldable pub identity_octets : Identity → List ℕ
identity_octets x = word_octets x.fad ++ word_octets x.number ++ optional_number_octets x.subtype

abbrev pub size_of_optional_identity : ℕ
size_of_optional_identity = 20

unfoldable pub optional_identity_in : List ℕ → OptionalIdentity
optional_identity_in s = record { present = flag_in (part 0 4 s); identity = identity_in (part 4 16 s) }

unfoldable pub optional_identity_octets : OptionalIdentity → List ℕ
optional_identity_octets x = mark_octets x.present ++ identity_octets x.identity

abbrev pub size_of_format : ℕ
size_of_format = 104

unfoldable pub format_in : List ℕ → Format
format_in s = record { umf = word_in (part 0 4 s); version = optional_number_in (part 4 8 s); identity = optional_identity_in (part 12 20 s); file = optional_text_in (part 32 72 s) }

unfoldable pub format_octets : Format → List ℕ
format_octets x = word_octets x.umf ++ optional_number_octets x.version ++ optional_identity_octets x.identity ++ optional_text_octets x.file

abbrev pub size_of_codes : ℕ
size_of_codes = 16

unfoldable pub codes_in : List ℕ → Codes
codes_in s = record { operation = word_in (part 0 4 s); retransmit = word_in (part 4 4 s); precedence = word_in (part 8 4 s); classification = word_in (part 12 4 s) }

unfoldable pub codes_octets : Codes → List ℕ
codes_octets x = word_octets x.operation ++ word_octets x.retransmit ++ word_octets x.precedence ++ word_octets x.classification

abbrev pub size_of_handling : ℕ
size_of_handling = 96

unfoldable pub handling_in : List ℕ → Handling
handling_in s = record { size = optional_number_in (part 0 8 s); codes = codes_in (part 8 16 s); marking = optional_text_in (part 24 72 s) }

unfoldable pub handling_octets : Handling → List ℕ
handling_octets x = optional_number_octets x.size ++ codes_octets x.codes ++ optional_text_octets x.marking

abbrev pub size_of_requests : ℕ
size_of_requests = 3

unfoldable pub requests_in : List ℕ → Requests
requests_in s = record { machine = flag_in (part 0 1 s); acknowledge = flag_in (part 1 1 s); reply = flag_in (part 2 1 s) }

unfoldable pub requests_octets : Requests → List ℕ
requests_octets x = flag_octets x.machine ++ flag_octets x.acknowledge ++ flag_octets x.reply

abbrev pub size_of_optional_requests : ℕ
size_of_optional_requests = 4

unfoldable pub optional_requests_in : List ℕ → OptionalRequests
optional_requests_in s = record { present = flag_in (part 0 1 s); requests = requests_in (part 1 3 s) }

unfoldable pub optional_requests_octets : OptionalRequests → List ℕ
optional_requests_octets x = flag_octets x.present ++ requests_octets x.requests

abbrev pub size_of_times : ℕ
size_of_times = 68

unfoldable pub times_in : List ℕ → Times
times_in s = record { origin = optional_stamp_in (part 0 36 s); perish = optional_dtg_in (part 36 28 s); requests = optional_requests_in (part 64 4 s) }

unfoldable pub times_octets : Times → List ℕ
times_octets x = optional_stamp_octets x.origin ++ optional_dtg_octets x.perish ++ optional_requests_octets x.requests

abbrev pub size_of_compliance : ℕ
size_of_compliance = 20

unfoldable pub compliance_in : List ℕ → Compliance
compliance_in s = record { code = word_in (part 0 4 s); cantco = optional_number_in (part 4 8 s); cantpro = optional_number_in (part 12 8 s) }

unfoldable pub compliance_octets : Compliance → List ℕ
compliance_octets x = word_octets x.code ++ optional_number_octets x.cantco ++ optional_number_octets x.cantpro

abbrev pub size_of_response : ℕ
size_of_response = 124

unfoldable pub response_in : List ℕ → Response
response_in s = record { stamp = stamp_in (part 0 32 s); compliance = compliance_in (part 32 20 s); amplification = optional_text_in (part 52 72 s) }

unfoldable pub response_octets : Response → List ℕ
response_octets x = stamp_octets x.stamp ++ compliance_octets x.compliance ++ optional_text_octets x.amplification

abbrev pub size_of_optional_response : ℕ
size_of_optional_response = 128

unfoldable pub optional_response_in : List ℕ → OptionalResponse
optional_response_in s = record { present = flag_in (part 0 4 s); response = response_in (part 4 124 s) }

unfoldable pub optional_response_octets : OptionalResponse → List ℕ
optional_response_octets x = mark_octets x.present ++ response_octets x.response

abbrev pub size_of_reference : ℕ
size_of_reference = 112

unfoldable pub reference_in : List ℕ → Reference
reference_in s = record { address = address_in (part 0 80 s); stamp = stamp_in (part 80 32 s) }

unfoldable pub reference_octets : Reference → List ℕ
reference_octets x = address_octets x.address ++ stamp_octets x.stamp

abbrev pub size_of_references : ℕ
size_of_references = 452

unfoldable pub references_in : List ℕ → References
references_in s = record { list = many reference_in 112 4 (part 0 448 s); count = word_in (part 448 4 s) }

unfoldable pub references_octets : References → List ℕ
references_octets x = many_octets reference_octets x.list ++ word_octets x.count

abbrev pub size_of_references_list : ℕ
size_of_references_list = 448

-- of the octets of the list, and a count
abbrev pub references_of : List ℕ → ℕ → References
references_of s n = record { list = many reference_in 112 4 s; count = n }

abbrev pub size_of_optional_references : ℕ
size_of_optional_references = 456

unfoldable pub optional_references_in : List ℕ → OptionalReferences
optional_references_in s = record { present = flag_in (part 0 4 s); references = references_in (part 4 452 s) }

unfoldable pub optional_references_octets : OptionalReferences → List ℕ
optional_references_octets x = mark_octets x.present ++ references_octets x.references

abbrev pub size_of_block : ℕ
size_of_block = 852

unfoldable pub block_in : List ℕ → Block
block_in s = record { format = format_in (part 0 104 s); handling = handling_in (part 104 96 s); times = times_in (part 200 68 s); response = optional_response_in (part 268 128 s); references = optional_references_in (part 396 456 s) }

unfoldable pub block_octets : Block → List ℕ
block_octets x = format_octets x.format ++ handling_octets x.handling ++ times_octets x.times ++ optional_response_octets x.response ++ optional_references_octets x.references

abbrev pub size_of_blocks : ℕ
size_of_blocks = 13636

unfoldable pub blocks_in : List ℕ → Blocks
blocks_in s = record { list = many block_in 852 16 (part 0 13632 s); count = word_in (part 13632 4 s) }

unfoldable pub blocks_octets : Blocks → List ℕ
blocks_octets x = many_octets block_octets x.list ++ word_octets x.count

abbrev pub size_of_blocks_list : ℕ
size_of_blocks_list = 13632

-- of the octets of the list, and a count
abbrev pub blocks_of : List ℕ → ℕ → Blocks
blocks_of s n = record { list = many block_in 852 16 s; count = n }

abbrev pub size_of_header : ℕ
size_of_header = 16312

unfoldable pub header_in : List ℕ → Header
header_in s = record { front = front_in (part 0 2672 s); sized = flag_in (part 2672 4 s); blocks = blocks_in (part 2676 13636 s) }

unfoldable pub header_octets : Header → List ℕ
header_octets x = front_octets x.front ++ mark_octets x.sized ++ blocks_octets x.blocks
