-- Every value of a declared type is as its type says: what the type says of the machine's value says how large numbers are, and how many cells arrays
-- have. Assumes nothing. Written by layout/generate.py.
use mathlib.Core.List.{List, [], ◌∷◌}
use mir.Val.{Val}
use denote.Array.{each}
use denote.Laws.{Is}
use denote.Shadow.{shadow}
use denote.Struct.Declared as declared
use Rattle.cells.specs.Cells.{Each}
use Rattle.optional.specs.declared.OptionalNumber.{OptionalNumber}
use Rattle.optional.specs.contracts.OptionalNumber as «optional_number»
use Rattle.text.specs.declared.Text.{Text}
use Rattle.text.specs.contracts.Text as «text»
use Rattle.header.specs.declared.OptionalText.{OptionalText}
use Rattle.header.specs.contracts.OptionalText as «optional_text»
use Rattle.header.specs.declared.Address.{Address}
use Rattle.header.specs.contracts.Address as «address»
use Rattle.header.specs.declared.OptionalAddress.{OptionalAddress}
use Rattle.header.specs.contracts.OptionalAddress as «optional_address»
use Rattle.header.specs.declared.Addresses.{Addresses}
use Rattle.header.specs.contracts.Addresses as «addresses»
use Rattle.header.specs.declared.OptionalAddresses.{OptionalAddresses}
use Rattle.header.specs.contracts.OptionalAddresses as «optional_addresses»
use Rattle.header.specs.declared.Front.{Front}
use Rattle.header.specs.contracts.Front as «front»
use Rattle.header.specs.declared.Date.{Date}
use Rattle.header.specs.contracts.Date as «date»
use Rattle.header.specs.declared.Time.{Time}
use Rattle.header.specs.contracts.Time as «time»
use Rattle.header.specs.declared.Dtg.{Dtg}
use Rattle.header.specs.contracts.Dtg as «dtg»
use Rattle.header.specs.declared.OptionalDtg.{OptionalDtg}
use Rattle.header.specs.contracts.OptionalDtg as «optional_dtg»
use Rattle.header.specs.declared.Stamp.{Stamp}
use Rattle.header.specs.contracts.Stamp as «stamp»
use Rattle.header.specs.declared.OptionalStamp.{OptionalStamp}
use Rattle.header.specs.contracts.OptionalStamp as «optional_stamp»
use Rattle.header.specs.declared.Identity.{Identity}
use Rattle.header.specs.contracts.Identity as «identity»
use Rattle.header.specs.declared.OptionalIdentity.{OptionalIdentity}
use Rattle.header.specs.contracts.OptionalIdentity as «optional_identity»
use Rattle.header.specs.declared.Format.{Format}
use Rattle.header.specs.contracts.Format as «format»
use Rattle.header.specs.declared.Codes.{Codes}
use Rattle.header.specs.contracts.Codes as «codes»
use Rattle.header.specs.declared.Handling.{Handling}
use Rattle.header.specs.contracts.Handling as «handling»
use Rattle.header.specs.declared.Times.{Times}
use Rattle.header.specs.contracts.Times as «times»
use Rattle.header.specs.declared.Compliance.{Compliance}
use Rattle.header.specs.contracts.Compliance as «compliance»
use Rattle.header.specs.declared.Response.{Response}
use Rattle.header.specs.contracts.Response as «response»
use Rattle.header.specs.declared.OptionalResponse.{OptionalResponse}
use Rattle.header.specs.contracts.OptionalResponse as «optional_response»
use Rattle.header.specs.declared.Reference.{Reference}
use Rattle.header.specs.contracts.Reference as «reference»
use Rattle.header.specs.declared.References.{References}
use Rattle.header.specs.contracts.References as «references»
use Rattle.header.specs.declared.OptionalReferences.{OptionalReferences}
use Rattle.header.specs.contracts.OptionalReferences as «optional_references»
use Rattle.header.specs.declared.Block.{Block}
use Rattle.header.specs.contracts.Block as «block»
use Rattle.header.specs.declared.Blocks.{Blocks}
use Rattle.header.specs.contracts.Blocks as «blocks»
use Rattle.header.specs.declared.Header.{Header}
use Rattle.header.specs.contracts.Header as «header»
use Rattle.record_octets.specs.Typed.{TypedOptionalNumber, TypedText, TypedOptionalText, TypedAddress, TypedOptionalAddress, TypedAddresses, TypedOptionalAddresses, TypedFront, TypedDate, TypedTime, TypedDtg, TypedOptionalDtg, TypedStamp, TypedOptionalStamp, TypedIdentity, TypedOptionalIdentity, TypedFormat, TypedCodes, TypedHandling, TypedTimes, TypedCompliance, TypedResponse, TypedOptionalResponse, TypedReference, TypedReferences, TypedOptionalReferences, TypedBlock, TypedBlocks, TypedHeader}

pub optional_number-typed : (x : OptionalNumber) (vs : List Val) → Is (declared.row «optional_number».the_type) x vs → TypedOptionalNumber x
optional_number-typed x vs p = record { value = p.1.1.1.0.1 }

pub text-typed : (x : Text) (vs : List Val) → Is (declared.row «text».the_type) x vs → TypedText x
text-typed x vs p = record { chars = p.1.1.0.1.0.1; len = p.1.1.1.0.1 }

pub optional_text-typed : (x : OptionalText) (vs : List Val) → Is (declared.row «optional_text».the_type) x vs → TypedOptionalText x
optional_text-typed x vs p = record { text = text-typed x.text _ p.1.1.1.0 }

pub address-typed : (x : Address) (vs : List Val) → Is (declared.row «address».the_type) x vs → TypedAddress x
address-typed x vs p = record { urn = optional_number-typed x.urn _ p.1.1.0; name = optional_text-typed x.name _ p.1.1.1.0 }

address-each : (l : List Address) (us : List Val) → shadow (each («address».the_row).Denot («address».the_row).own_val l us) → Each TypedAddress l
address-each [] us s = tt
address-each (x ∷ l) [] s = absurd s
address-each (x ∷ l) (u ∷ us) s = (address-typed x _ s.0, address-each l us s.1)

pub optional_address-typed : (x : OptionalAddress) (vs : List Val) → Is (declared.row «optional_address».the_type) x vs → TypedOptionalAddress x
optional_address-typed x vs p = record { address = address-typed x.address _ p.1.1.1.0 }

pub addresses-typed : (x : Addresses) (vs : List Val) → Is (declared.row «addresses».the_type) x vs → TypedAddresses x
addresses-typed x vs p = record { list = (p.1.1.0.1.0.1, address-each x.list p.1.1.0.0 p.1.1.0.1.1); count = p.1.1.1.0.1 }

pub optional_addresses-typed : (x : OptionalAddresses) (vs : List Val) → Is (declared.row «optional_addresses».the_type) x vs → TypedOptionalAddresses x
optional_addresses-typed x vs p = record { addresses = addresses-typed x.addresses _ p.1.1.1.0 }

pub front-typed : (x : Front) (vs : List Val) → Is (declared.row «front».the_type) x vs → TypedFront x
front-typed x vs p = record { version = p.1.1.0.1; compression = optional_number-typed x.compression _ p.1.1.1.0; originator = optional_address-typed x.originator _ p.1.1.1.1.0; recipients = optional_addresses-typed x.recipients _ p.1.1.1.1.1.0; information = optional_addresses-typed x.information _ p.1.1.1.1.1.1.0 }

pub date-typed : (x : Date) (vs : List Val) → Is (declared.row «date».the_type) x vs → TypedDate x
date-typed x vs p = record { year = p.1.1.0.1; month = p.1.1.1.0.1; day = p.1.1.1.1.0.1 }

pub time-typed : (x : Time) (vs : List Val) → Is (declared.row «time».the_type) x vs → TypedTime x
time-typed x vs p = record { hour = p.1.1.0.1; minute = p.1.1.1.0.1; second = p.1.1.1.1.0.1 }

pub dtg-typed : (x : Dtg) (vs : List Val) → Is (declared.row «dtg».the_type) x vs → TypedDtg x
dtg-typed x vs p = record { date = date-typed x.date _ p.1.1.0; time = time-typed x.time _ p.1.1.1.0 }

pub optional_dtg-typed : (x : OptionalDtg) (vs : List Val) → Is (declared.row «optional_dtg».the_type) x vs → TypedOptionalDtg x
optional_dtg-typed x vs p = record { dtg = dtg-typed x.dtg _ p.1.1.1.0 }

pub stamp-typed : (x : Stamp) (vs : List Val) → Is (declared.row «stamp».the_type) x vs → TypedStamp x
stamp-typed x vs p = record { dtg = dtg-typed x.dtg _ p.1.1.0; extension = optional_number-typed x.extension _ p.1.1.1.0 }

pub optional_stamp-typed : (x : OptionalStamp) (vs : List Val) → Is (declared.row «optional_stamp».the_type) x vs → TypedOptionalStamp x
optional_stamp-typed x vs p = record { stamp = stamp-typed x.stamp _ p.1.1.1.0 }

pub identity-typed : (x : Identity) (vs : List Val) → Is (declared.row «identity».the_type) x vs → TypedIdentity x
identity-typed x vs p = record { fad = p.1.1.0.1; number = p.1.1.1.0.1; subtype = optional_number-typed x.subtype _ p.1.1.1.1.0 }

pub optional_identity-typed : (x : OptionalIdentity) (vs : List Val) → Is (declared.row «optional_identity».the_type) x vs → TypedOptionalIdentity x
optional_identity-typed x vs p = record { identity = identity-typed x.identity _ p.1.1.1.0 }

pub format-typed : (x : Format) (vs : List Val) → Is (declared.row «format».the_type) x vs → TypedFormat x
format-typed x vs p = record { umf = p.1.1.0.1; version = optional_number-typed x.version _ p.1.1.1.0; identity = optional_identity-typed x.identity _ p.1.1.1.1.0; file = optional_text-typed x.file _ p.1.1.1.1.1.0 }

pub codes-typed : (x : Codes) (vs : List Val) → Is (declared.row «codes».the_type) x vs → TypedCodes x
codes-typed x vs p = record { operation = p.1.1.0.1; retransmit = p.1.1.1.0.1; precedence = p.1.1.1.1.0.1; classification = p.1.1.1.1.1.0.1 }

pub handling-typed : (x : Handling) (vs : List Val) → Is (declared.row «handling».the_type) x vs → TypedHandling x
handling-typed x vs p = record { size = optional_number-typed x.size _ p.1.1.0; codes = codes-typed x.codes _ p.1.1.1.0; marking = optional_text-typed x.marking _ p.1.1.1.1.0 }

pub times-typed : (x : Times) (vs : List Val) → Is (declared.row «times».the_type) x vs → TypedTimes x
times-typed x vs p = record { origin = optional_stamp-typed x.origin _ p.1.1.0; perish = optional_dtg-typed x.perish _ p.1.1.1.0 }

pub compliance-typed : (x : Compliance) (vs : List Val) → Is (declared.row «compliance».the_type) x vs → TypedCompliance x
compliance-typed x vs p = record { code = p.1.1.0.1; cantco = optional_number-typed x.cantco _ p.1.1.1.0; cantpro = optional_number-typed x.cantpro _ p.1.1.1.1.0 }

pub response-typed : (x : Response) (vs : List Val) → Is (declared.row «response».the_type) x vs → TypedResponse x
response-typed x vs p = record { stamp = stamp-typed x.stamp _ p.1.1.0; compliance = compliance-typed x.compliance _ p.1.1.1.0; amplification = optional_text-typed x.amplification _ p.1.1.1.1.0 }

pub optional_response-typed : (x : OptionalResponse) (vs : List Val) → Is (declared.row «optional_response».the_type) x vs → TypedOptionalResponse x
optional_response-typed x vs p = record { response = response-typed x.response _ p.1.1.1.0 }

pub reference-typed : (x : Reference) (vs : List Val) → Is (declared.row «reference».the_type) x vs → TypedReference x
reference-typed x vs p = record { address = address-typed x.address _ p.1.1.0; stamp = stamp-typed x.stamp _ p.1.1.1.0 }

reference-each : (l : List Reference) (us : List Val) → shadow (each («reference».the_row).Denot («reference».the_row).own_val l us) → Each TypedReference l
reference-each [] us s = tt
reference-each (x ∷ l) [] s = absurd s
reference-each (x ∷ l) (u ∷ us) s = (reference-typed x _ s.0, reference-each l us s.1)

pub references-typed : (x : References) (vs : List Val) → Is (declared.row «references».the_type) x vs → TypedReferences x
references-typed x vs p = record { list = (p.1.1.0.1.0.1, reference-each x.list p.1.1.0.0 p.1.1.0.1.1); count = p.1.1.1.0.1 }

pub optional_references-typed : (x : OptionalReferences) (vs : List Val) → Is (declared.row «optional_references».the_type) x vs → TypedOptionalReferences x
optional_references-typed x vs p = record { references = references-typed x.references _ p.1.1.1.0 }

pub block-typed : (x : Block) (vs : List Val) → Is (declared.row «block».the_type) x vs → TypedBlock x
block-typed x vs p = record { format = format-typed x.format _ p.1.1.0; handling = handling-typed x.handling _ p.1.1.1.0; times = times-typed x.times _ p.1.1.1.1.0; response = optional_response-typed x.response _ p.1.1.1.1.1.0; references = optional_references-typed x.references _ p.1.1.1.1.1.1.0 }

block-each : (l : List Block) (us : List Val) → shadow (each («block».the_row).Denot («block».the_row).own_val l us) → Each TypedBlock l
block-each [] us s = tt
block-each (x ∷ l) [] s = absurd s
block-each (x ∷ l) (u ∷ us) s = (block-typed x _ s.0, block-each l us s.1)

pub blocks-typed : (x : Blocks) (vs : List Val) → Is (declared.row «blocks».the_type) x vs → TypedBlocks x
blocks-typed x vs p = record { list = (p.1.1.0.1.0.1, block-each x.list p.1.1.0.0 p.1.1.0.1.1); count = p.1.1.1.0.1 }

pub header-typed : (x : Header) (vs : List Val) → Is (declared.row «header».the_type) x vs → TypedHeader x
header-typed x vs p = record { front = front-typed x.front _ p.1.1.0; blocks = blocks-typed x.blocks _ p.1.1.1.1.0 }
