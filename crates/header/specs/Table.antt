-- Table I, as one codec for versions 1 and 2: every field in the table's order, `optional` for a presence bit and what follows it.
use Rattle.std.specs.Prelude.{ℕ, suc, ◌-◌, Bool, not, eqb}
use Rattle.codec.specs.Answer.{pick}
use Rattle.codec.specs.Codec.{Codec, number, flag, must, optional, present, unless, shaped, ◌&◌, ◌then_by◌, ◌closed_by◌}
use Rattle.codec.specs.Lists.{recurs, listed, cells}
use Rattle.optional.specs.declared.OptionalNumber.{OptionalNumber}
use Rattle.optional.specs.Optionals.{optional_number}
use Rattle.text.specs.Texts.{text, no_text}
use Rattle.header.specs.Calendar.{days_in}
use Rattle.header.specs.Zero.{no_number, no_address, no_addresses, no_dtg, no_stamp, no_identity, no_requests, no_response, no_reference, no_references, no_block}
use Rattle.header.specs.declared.OptionalText.{OptionalText}
use Rattle.header.specs.declared.Address.{Address}
use Rattle.header.specs.declared.OptionalAddress.{OptionalAddress}
use Rattle.header.specs.declared.Addresses.{Addresses}
use Rattle.header.specs.declared.OptionalAddresses.{OptionalAddresses}
use Rattle.header.specs.declared.Front.{Front}
use Rattle.header.specs.declared.Date.{Date}
use Rattle.header.specs.declared.Time.{Time}
use Rattle.header.specs.declared.Dtg.{Dtg}
use Rattle.header.specs.declared.OptionalDtg.{OptionalDtg}
use Rattle.header.specs.declared.Stamp.{Stamp}
use Rattle.header.specs.declared.OptionalStamp.{OptionalStamp}
use Rattle.header.specs.declared.Identity.{Identity}
use Rattle.header.specs.declared.OptionalIdentity.{OptionalIdentity}
use Rattle.header.specs.declared.Format.{Format}
use Rattle.header.specs.declared.Codes.{Codes}
use Rattle.header.specs.declared.Handling.{Handling}
use Rattle.header.specs.declared.Requests.{Requests}
use Rattle.header.specs.declared.OptionalRequests.{OptionalRequests}
use Rattle.header.specs.declared.Times.{Times}
use Rattle.header.specs.declared.Compliance.{Compliance}
use Rattle.header.specs.declared.Response.{Response}
use Rattle.header.specs.declared.OptionalResponse.{OptionalResponse}
use Rattle.header.specs.declared.Reference.{Reference}
use Rattle.header.specs.declared.References.{References}
use Rattle.header.specs.declared.OptionalReferences.{OptionalReferences}
use Rattle.header.specs.declared.Block.{Block}
use Rattle.header.specs.declared.Blocks.{Blocks}
use Rattle.header.specs.declared.Wire.{Wire}

-- a number of w bits that takes every value of its width, up to hi
abbrev pub whole : ℕ → ℕ → Codec ℕ
whole w hi = number w 0 hi 3

-- [a number of w bits, from lo to hi]
abbrev pub maybe : ℕ → ℕ → ℕ → Codec OptionalNumber
maybe w lo hi = optional_number (record { width = w; least = lo; most = hi })

-- [a text of at most n characters]
unfoldable pub optional_text : ℕ → Codec OptionalText
optional_text n = shaped (λ x. record { present = x.0; text = x.1 }) (λ y. (y.present, y.text)) (optional no_text (text n))

-- the unit name of an address behind its presence bit, which has to be b
unfoldable pub unit_name : Bool → Codec OptionalText
unit_name b = shaped (λ x. record { present = x.0; text = x.1 }) (λ y. (y.present, y.text)) (must b 6 then_by present no_text (text 64))

-- [URN 24], [unit name 64]: exactly one present
unfoldable pub address : Codec Address
address = shaped (λ x. record { urn = x.0; name = x.1 }) (λ y. (y.urn, y.name)) (maybe 24 0 16777215 then_by (λ u. unit_name (not u.present)))

-- a list of 1 to n + 1 addresses
unfoldable pub addresses : ℕ → Codec Addresses
addresses n = shaped (λ x. record { list = x.0; count = x.1 }) (λ y. (y.list, y.count)) (cells no_address 16 (suc n) 5 (listed no_address address n))

-- [G1 originator address]
unfoldable pub originator : Codec OptionalAddress
originator = shaped (λ x. record { present = x.0; address = x.1 }) (λ y. (y.present, y.address)) (optional no_address address)

-- [G2 recipients]
unfoldable pub recipients : Codec OptionalAddresses
recipients = shaped (λ x. record { present = x.0; addresses = x.1 }) (λ y. (y.present, y.addresses)) (optional no_addresses (addresses 15))

-- how many addressees may stand in G3: G2 and G3 hold at most 16 together
abbrev pub room_behind : OptionalAddresses → ℕ
room_behind g = 16 - pick g.present g.addresses.count 0

-- [G3 information addressees], n at most; its presence bit asks for one more, as a recurrence bit does, and without room it has to be 0
unfoldable pub information : ℕ → Codec OptionalAddresses
information n = shaped (λ x. record { present = x.0; addresses = x.1 }) (λ y. (y.present, y.addresses)) (recurs n then_by present no_addresses (addresses (n - 1)))

-- version 4; [compression 2]; [G1]; [G2]; [G3]
unfoldable pub front : Codec Front
front =
    shaped
    (λ x. record { version = x.0.0; compression = x.0.1.0; originator = x.0.1.1; recipients = x.1.0; information = x.1.1 })
    (λ y. ((y.version, (y.compression, y.originator)), (y.recipients, y.information)))
    ((number 4 1 2 2 & maybe 2 0 1 & originator) & (recipients then_by (λ g. information (room_behind g))))

-- day 5, of the days that its month has
unfoldable pub day_in : ℕ → ℕ → Codec ℕ
day_in year month = number 5 1 (days_in year month) 3

-- year 7, month 4, day 5
unfoldable pub date : Codec Date
date =
    shaped
    (λ x. record { year = x.0; month = x.1.0; day = x.1.1 })
    (λ y. (y.year, (y.month, y.day)))
    (number 7 0 99 3 then_by (λ year. number 4 1 12 3 then_by (λ month. day_in year month)))

-- hour 5, minute 6, second 6
unfoldable pub time : Codec Time
time = shaped (λ x. record { hour = x.0; minute = x.1.0; second = x.1.1 }) (λ y. (y.hour, (y.minute, y.second))) (number 5 0 23 3 & number 6 0 59 3 & number 6 0 59 3)

unfoldable pub dtg : Codec Dtg
dtg = shaped (λ x. record { date = x.0; time = x.1 }) (λ y. (y.date, y.time)) (date & time)

-- DTG, [extension 12]
unfoldable pub stamp : Codec Stamp
stamp = shaped (λ x. record { dtg = x.0; extension = x.1 }) (λ y. (y.dtg, y.extension)) (dtg & maybe 12 0 4095)

-- G4: FAD 4, number 7, [subtype 7]
unfoldable pub identity : Codec Identity
identity = shaped (λ x. record { fad = x.0; number = x.1.0; subtype = x.1.1 }) (λ y. (y.fad, (y.number, y.subtype))) (whole 4 15 & whole 7 127 & maybe 7 0 127)

unfoldable pub optional_identity : Codec OptionalIdentity
optional_identity = shaped (λ x. record { present = x.0; identity = x.1 }) (λ y. (y.present, y.identity)) (optional no_identity identity)

-- [standard version 4], which version 1 lacks: a record of version 1 that has it is refused with 3
unfoldable pub standard_version : ℕ → Codec OptionalNumber
standard_version version = unless (eqb version 1) no_number (λ y. y.present) 3 (maybe 4 0 15)

-- UMF 4; [standard version 4], not in version 1; [G4]; [file name 64]
unfoldable pub format : ℕ → Codec Format
format version =
    shaped
    (λ x. record { umf = x.0; version = x.1.0; identity = x.1.1.0; file = x.1.1.1 })
    (λ y. (y.umf, (y.version, (y.identity, y.file))))
    (number 4 0 8 3 & standard_version version & optional_identity & optional_text 64)

-- operation 2; retransmit 1; precedence 3; classification 2
unfoldable pub codes : Codec Codes
codes =
    shaped
    (λ x. record { operation = x.0; retransmit = x.1.0; precedence = x.1.1.0; classification = x.1.1.1 })
    (λ y. (y.operation, (y.retransmit, (y.precedence, y.classification))))
    (whole 2 3 & whole 1 1 & whole 3 7 & whole 2 3)

-- [message size 20]; the codes; [marking 32]
unfoldable pub handling : Codec Handling
handling =
    shaped (λ x. record { size = x.0; codes = x.1.0; marking = x.1.1 }) (λ y. (y.size, (y.codes, y.marking))) (maybe 20 0 1048575 & codes & optional_text 32)

-- [G5: DTG, [extension 12]]
unfoldable pub optional_stamp : Codec OptionalStamp
optional_stamp = shaped (λ x. record { present = x.0; stamp = x.1 }) (λ y. (y.present, y.stamp)) (optional no_stamp stamp)

-- [G6: DTG]
unfoldable pub optional_dtg : Codec OptionalDtg
optional_dtg = shaped (λ x. record { present = x.0; dtg = x.1 }) (λ y. (y.present, y.dtg)) (optional no_dtg dtg)

-- G7: machine 1, operator acknowledge 1, operator reply 1
unfoldable pub requests : Codec Requests
requests =
    shaped (λ x. record { machine = x.0; acknowledge = x.1.0; reply = x.1.1 }) (λ y. (y.machine, (y.acknowledge, y.reply))) (flag & flag & flag)

unfoldable pub optional_requests : Codec OptionalRequests
optional_requests = shaped (λ x. record { present = x.0; requests = x.1 }) (λ y. (y.present, y.requests)) (optional no_requests requests)

-- [G5]; [G6]; [G7]
unfoldable pub times : Codec Times
times =
    shaped (λ x. record { origin = x.0; perish = x.1.0; requests = x.1.1 }) (λ y. (y.origin, (y.perish, y.requests))) (optional_stamp & optional_dtg & optional_requests)

-- R/C 3, [CANTCO reason 3], [CANTPRO reason 6]
unfoldable pub compliance : Codec Compliance
compliance =
    shaped (λ x. record { code = x.0; cantco = x.1.0; cantpro = x.1.1 }) (λ y. (y.code, (y.cantco, y.cantpro))) (number 3 1 6 3 & maybe 3 0 7 & maybe 6 0 63)

-- G8: DTG, [extension 12], R/C with its reasons, [amplification 50]
unfoldable pub response : Codec Response
response =
    shaped (λ x. record { stamp = x.0; compliance = x.1.0; amplification = x.1.1 }) (λ y. (y.stamp, (y.compliance, y.amplification))) (stamp & compliance & optional_text 50)

unfoldable pub optional_response : Codec OptionalResponse
optional_response = shaped (λ x. record { present = x.0; response = x.1 }) (λ y. (y.present, y.response)) (optional no_response response)

-- G9, an entry: address, DTG, [extension 12]
unfoldable pub reference : Codec Reference
reference = shaped (λ x. record { address = x.0; stamp = x.1 }) (λ y. (y.address, y.stamp)) (address & stamp)

-- G9: 1 to 4 entries
unfoldable pub references : Codec References
references = shaped (λ x. record { list = x.0; count = x.1 }) (λ y. (y.list, y.count)) (cells no_reference 4 4 5 (listed no_reference reference 3))

unfoldable pub optional_references : Codec OptionalReferences
optional_references = shaped (λ x. record { present = x.0; references = x.1 }) (λ y. (y.present, y.references)) (optional no_references references)

-- a message block of a header of that version, behind its recurrence bit; the presence bit of G10 has to be 0
unfoldable pub block : ℕ → Codec Block
block version =
    shaped
    (λ x. record { format = x.0.0; handling = x.0.1.0; times = x.0.1.1; response = x.1.0; references = x.1.1 })
    (λ y. ((y.format, (y.handling, y.times)), (y.response, y.references)))
    ((format version & handling & times) & (optional_response & (optional_references closed_by 7)))

-- 1 to 16 message blocks
unfoldable pub blocks : ℕ → Codec Blocks
blocks version = shaped (λ x. record { list = x.0; count = x.1 }) (λ y. (y.list, y.count)) (cells no_block 16 16 5 (listed no_block (block version) 15))

-- the whole of Table I: the fields up to G3; [header size 16]; the message blocks, laid out by the version that stands first
unfoldable pub wire : Codec Wire
wire =
    shaped
    (λ x. record { front = x.0; size = x.1.0; blocks = x.1.1 })
    (λ y. (y.front, (y.size, y.blocks)))
    (front then_by (λ f. maybe 16 0 65535 & blocks f.version))
