-- What the declared types say of a record's values, struct by struct: numbers are below 2^32, arrays have their cells. Every value that code holds is so
-- (proofs/Declared.antt). Written by layout/generate.py.
use Rattle.std.specs.Prelude.{ℕ, ◌<◌, ◌≡◌, List, length}
use Rattle.cells.specs.Cells.{Each}
use Rattle.optional.specs.declared.OptionalNumber.{OptionalNumber}
use Rattle.text.specs.declared.Text.{Text}
use Rattle.header.specs.declared.OptionalText.{OptionalText}
use Rattle.header.specs.declared.Address.{Address}
use Rattle.header.specs.declared.OptionalAddress.{OptionalAddress}
use Rattle.header.specs.declared.Addresses.{Addresses}
use Rattle.header.specs.declared.OptionalAddresses.{OptionalAddresses}
use Rattle.header.specs.declared.Front.{Front}
use Rattle.header.specs.declared.Date.{Date}
use Rattle.header.specs.declared.Time.{Time}
use Rattle.header.specs.declared.Dtg.{Dtg}
use Rattle.header.specs.declared.OptionalDtg.{OptionalDtg}
use Rattle.header.specs.declared.Stamp.{Stamp}
use Rattle.header.specs.declared.OptionalStamp.{OptionalStamp}
use Rattle.header.specs.declared.Identity.{Identity}
use Rattle.header.specs.declared.OptionalIdentity.{OptionalIdentity}
use Rattle.header.specs.declared.Format.{Format}
use Rattle.header.specs.declared.Codes.{Codes}
use Rattle.header.specs.declared.Handling.{Handling}
use Rattle.header.specs.declared.Times.{Times}
use Rattle.header.specs.declared.Compliance.{Compliance}
use Rattle.header.specs.declared.Response.{Response}
use Rattle.header.specs.declared.OptionalResponse.{OptionalResponse}
use Rattle.header.specs.declared.Reference.{Reference}
use Rattle.header.specs.declared.References.{References}
use Rattle.header.specs.declared.OptionalReferences.{OptionalReferences}
use Rattle.header.specs.declared.Block.{Block}
use Rattle.header.specs.declared.Blocks.{Blocks}
use Rattle.header.specs.declared.Header.{Header}

pub record TypedOptionalNumber (x : OptionalNumber) : Type 0 where
  pub value : x.value < 4294967296

pub record TypedText (x : Text) : Type 0 where
  pub chars : length x.chars ≡ 64
  pub len : x.len < 4294967296

pub record TypedOptionalText (x : OptionalText) : Type 0 where
  pub text : TypedText x.text

pub record TypedAddress (x : Address) : Type 0 where
  pub urn : TypedOptionalNumber x.urn
  pub name : TypedOptionalText x.name

pub record TypedOptionalAddress (x : OptionalAddress) : Type 0 where
  pub address : TypedAddress x.address

pub record TypedAddresses (x : Addresses) : Type 0 where
  pub list : (length x.list ≡ 16) × Each TypedAddress x.list
  pub count : x.count < 4294967296

pub record TypedOptionalAddresses (x : OptionalAddresses) : Type 0 where
  pub addresses : TypedAddresses x.addresses

pub record TypedFront (x : Front) : Type 0 where
  pub version : x.version < 4294967296
  pub compression : TypedOptionalNumber x.compression
  pub originator : TypedOptionalAddress x.originator
  pub recipients : TypedOptionalAddresses x.recipients
  pub information : TypedOptionalAddresses x.information

pub record TypedDate (x : Date) : Type 0 where
  pub year : x.year < 4294967296
  pub month : x.month < 4294967296
  pub day : x.day < 4294967296

pub record TypedTime (x : Time) : Type 0 where
  pub hour : x.hour < 4294967296
  pub minute : x.minute < 4294967296
  pub second : x.second < 4294967296

pub record TypedDtg (x : Dtg) : Type 0 where
  pub date : TypedDate x.date
  pub time : TypedTime x.time

pub record TypedOptionalDtg (x : OptionalDtg) : Type 0 where
  pub dtg : TypedDtg x.dtg

pub record TypedStamp (x : Stamp) : Type 0 where
  pub dtg : TypedDtg x.dtg
  pub extension : TypedOptionalNumber x.extension

pub record TypedOptionalStamp (x : OptionalStamp) : Type 0 where
  pub stamp : TypedStamp x.stamp

pub record TypedIdentity (x : Identity) : Type 0 where
  pub fad : x.fad < 4294967296
  pub number : x.number < 4294967296
  pub subtype : TypedOptionalNumber x.subtype

pub record TypedOptionalIdentity (x : OptionalIdentity) : Type 0 where
  pub identity : TypedIdentity x.identity

pub record TypedFormat (x : Format) : Type 0 where
  pub umf : x.umf < 4294967296
  pub version : TypedOptionalNumber x.version
  pub identity : TypedOptionalIdentity x.identity
  pub file : TypedOptionalText x.file

pub record TypedCodes (x : Codes) : Type 0 where
  pub operation : x.operation < 4294967296
  pub retransmit : x.retransmit < 4294967296
  pub precedence : x.precedence < 4294967296
  pub classification : x.classification < 4294967296

pub record TypedHandling (x : Handling) : Type 0 where
  pub size : TypedOptionalNumber x.size
  pub codes : TypedCodes x.codes
  pub marking : TypedOptionalText x.marking

pub record TypedTimes (x : Times) : Type 0 where
  pub origin : TypedOptionalStamp x.origin
  pub perish : TypedOptionalDtg x.perish

pub record TypedCompliance (x : Compliance) : Type 0 where
  pub code : x.code < 4294967296
  pub cantco : TypedOptionalNumber x.cantco
  pub cantpro : TypedOptionalNumber x.cantpro

pub record TypedResponse (x : Response) : Type 0 where
  pub stamp : TypedStamp x.stamp
  pub compliance : TypedCompliance x.compliance
  pub amplification : TypedOptionalText x.amplification

pub record TypedOptionalResponse (x : OptionalResponse) : Type 0 where
  pub response : TypedResponse x.response

pub record TypedReference (x : Reference) : Type 0 where
  pub address : TypedAddress x.address
  pub stamp : TypedStamp x.stamp

pub record TypedReferences (x : References) : Type 0 where
  pub list : (length x.list ≡ 4) × Each TypedReference x.list
  pub count : x.count < 4294967296

pub record TypedOptionalReferences (x : OptionalReferences) : Type 0 where
  pub references : TypedReferences x.references

pub record TypedBlock (x : Block) : Type 0 where
  pub format : TypedFormat x.format
  pub handling : TypedHandling x.handling
  pub times : TypedTimes x.times
  pub response : TypedOptionalResponse x.response
  pub references : TypedOptionalReferences x.references

pub record TypedBlocks (x : Blocks) : Type 0 where
  pub list : (length x.list ≡ 16) × Each TypedBlock x.list
  pub count : x.count < 4294967296

pub record TypedHeader (x : Header) : Type 0 where
  pub front : TypedFront x.front
  pub blocks : TypedBlocks x.blocks
