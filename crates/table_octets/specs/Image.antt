-- The one image of rows: the table that holds these rows and nothing else. Every cell that nothing uses is 0, and so is every octet between the cells.
use Rattle.std.specs.Prelude.{ℕ, ◌-◌, true, false, List, ◌++◌, map, length, replicate}
use Rattle.std.proofs.Math.Option.{Option, none, some}
use Rattle.optional.specs.declared.OptionalNumber.{OptionalNumber}
use Rattle.text.specs.declared.Text.{Text}
use Rattle.header.specs.Zero.{no_number, no_optional_text}
use Rattle.header.specs.declared.Address.{Address as DeclaredAddress}
use Rattle.header.specs.declared.Requests.{Requests}
use Rattle.header.specs.declared.Stamp.{Stamp}
use Rattle.order.specs.Values.{Address, urn, name, Key}
use Rattle.order.specs.Requests.{Ask, Mark}
use Rattle.order.specs.Calls.{Row, Rows}
use Rattle.order.specs.declared.Key.{Key as DeclaredKey}
use Rattle.table.specs.Zero.{no_recipient, no_row}
use Rattle.table.specs.declared.Recipient.{Recipient}
use Rattle.table.specs.declared.Row.{Row as DeclaredRow}
use Rattle.table.specs.declared.Table.{Table}
use Rattle.table_octets.specs.Table.{table_octets}

-- the characters of a name, and 0 behind them
abbrev pub text_image : List ℕ → Text
text_image s = record { chars = s ++ replicate (64 - length s) 0; len = length s }

-- the one form that an address has; nothing of the other
unfoldable pub address_image : Address → DeclaredAddress
address_image (urn n) = record { urn = record { present = true; value = n }; name = no_optional_text }
address_image (name s) = record { urn = no_number; name = record { present = true; text = text_image s } }

abbrev pub number_image : Option ℕ → OptionalNumber
number_image none = no_number
number_image (some n) = record { present = true; value = n }

abbrev pub stamp_image : Key → Stamp
stamp_image k =
    record {
      dtg = record {
        date = record { year = k.year; month = k.month; day = k.day };
        time = record { hour = k.hour; minute = k.minute; second = k.second };
      };
      extension = number_image k.extension;
    }

unfoldable pub key_image : Key → DeclaredKey
key_image k = record { address = address_image k.from; stamp = stamp_image k }

abbrev pub ask_image : Ask → Requests
ask_image a = record { machine = a.machine; acknowledge = a.acknowledge; reply = a.reply }

-- a code cell: 0 is no code
abbrev pub code_image : Option ℕ → ℕ
code_image none = 0
code_image (some n) = n

unfoldable pub recipient_image : Address × Mark → Recipient
recipient_image x =
    record {
      address = address_image x.0;
      machine = code_image x.1.machine;
      acknowledge = code_image x.1.acknowledge;
      reply = code_image x.1.reply;
    }

-- the recipients first, and cells of 0 behind them
abbrev pub recipients_image : List (Address × Mark) → List Recipient
recipients_image l = map recipient_image l ++ replicate (16 - length l) no_recipient

unfoldable pub row_image : Key × Row → DeclaredRow
row_image x = record { key = key_image x.0; asked = ask_image x.1.0; recipients = recipients_image x.1.1; count = length x.1.1 }

-- the rows first, and cells of 0 behind them
unfoldable pub table_image : Rows → Table
table_image s = record { rows = map row_image s ++ replicate (32 - length s) no_row; count = length s }

-- its octets
abbrev pub image_of : Rows → List ℕ
image_of s = table_octets (table_image s)
