-- The zero value of each part of the record: nothing present, every cell 0.
use Rattle.std.specs.Prelude.{false, replicate}
use Rattle.optional.specs.declared.OptionalNumber.{OptionalNumber}
use Rattle.text.specs.Texts.{no_text}
use Rattle.header.specs.declared.OptionalText.{OptionalText}
use Rattle.header.specs.declared.Address.{Address}
use Rattle.header.specs.declared.Addresses.{Addresses}
use Rattle.header.specs.declared.Front.{Front}
use Rattle.header.specs.declared.Dtg.{Dtg}
use Rattle.header.specs.declared.Stamp.{Stamp}
use Rattle.header.specs.declared.Identity.{Identity}
use Rattle.header.specs.declared.Format.{Format}
use Rattle.header.specs.declared.Handling.{Handling}
use Rattle.header.specs.declared.Requests.{Requests}
use Rattle.header.specs.declared.Times.{Times}
use Rattle.header.specs.declared.Response.{Response}
use Rattle.header.specs.declared.Reference.{Reference}
use Rattle.header.specs.declared.References.{References}
use Rattle.header.specs.declared.Block.{Block}
use Rattle.header.specs.declared.Blocks.{Blocks}

unfoldable pub no_number : OptionalNumber
no_number = record { present = false; value = 0 }

unfoldable pub no_optional_text : OptionalText
no_optional_text = record { present = false; text = no_text }

unfoldable pub no_address : Address
no_address = record { urn = no_number; name = no_optional_text }

unfoldable pub no_addresses : Addresses
no_addresses = record { list = replicate 16 no_address; count = 0 }

unfoldable pub no_front : Front
no_front = record { version = 0; compression = no_number; originator = record { present = false; address = no_address }; recipients = record { present = false; addresses = no_addresses }; information = record { present = false; addresses = no_addresses } }

unfoldable pub no_dtg : Dtg
no_dtg = record { date = record { year = 0; month = 0; day = 0 }; time = record { hour = 0; minute = 0; second = 0 } }

unfoldable pub no_stamp : Stamp
no_stamp = record { dtg = no_dtg; extension = no_number }

unfoldable pub no_identity : Identity
no_identity = record { fad = 0; number = 0; subtype = no_number }

unfoldable pub no_format : Format
no_format = record { umf = 0; version = no_number; identity = record { present = false; identity = no_identity }; file = no_optional_text }

unfoldable pub no_handling : Handling
no_handling = record { size = no_number; codes = record { operation = 0; retransmit = 0; precedence = 0; classification = 0 }; marking = no_optional_text }

unfoldable pub no_requests : Requests
no_requests = record { machine = false; acknowledge = false; reply = false }

unfoldable pub no_times : Times
no_times = record { origin = record { present = false; stamp = no_stamp }; perish = record { present = false; dtg = no_dtg }; requests = record { present = false; requests = no_requests } }

unfoldable pub no_response : Response
no_response = record { stamp = no_stamp; compliance = record { code = 0; cantco = no_number; cantpro = no_number }; amplification = no_optional_text }

unfoldable pub no_reference : Reference
no_reference = record { address = no_address; stamp = no_stamp }

unfoldable pub no_references : References
no_references = record { list = replicate 4 no_reference; count = 0 }

unfoldable pub no_block : Block
no_block = record { format = no_format; handling = no_handling; times = no_times; response = record { present = false; response = no_response }; references = record { present = false; references = no_references } }

unfoldable pub no_blocks : Blocks
no_blocks = record { list = replicate 16 no_block; count = 0 }
