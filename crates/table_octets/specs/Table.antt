-- What the octets of a table hold, and the octets of a table, struct by struct: each is about the octets that are the struct's own. Any octets are
-- some table. Written by layout/generate.py.
use Rattle.std.specs.Prelude.{ℕ, List, ◌++◌}
use Rattle.cells.specs.Cells.{part, zeros, word_in, word_octets, flag_in, flag_octets, mark_octets, many, many_octets}
use Rattle.order.specs.declared.Key.{Key}
use Rattle.table.specs.declared.Recipient.{Recipient}
use Rattle.table.specs.declared.Row.{Row}
use Rattle.table.specs.declared.Table.{Table}
use Rattle.record_octets.specs.Record.{address_in, address_octets, stamp_in, stamp_octets, requests_in, requests_octets}

abbrev pub size_of_key : ℕ
size_of_key = 112

unfoldable pub key_in : List ℕ → Key
key_in s = record { address = address_in (part 0 80 s); stamp = stamp_in (part 80 32 s) }

unfoldable pub key_octets : Key → List ℕ
key_octets x = address_octets x.address ++ stamp_octets x.stamp

abbrev pub at_key_address : ℕ
at_key_address = 0

abbrev pub at_key_stamp : ℕ
at_key_stamp = 80

abbrev pub size_of_recipient : ℕ
size_of_recipient = 92

unfoldable pub recipient_in : List ℕ → Recipient
recipient_in s = record { address = address_in (part 0 80 s); machine = word_in (part 80 4 s); acknowledge = word_in (part 84 4 s); reply = word_in (part 88 4 s) }

unfoldable pub recipient_octets : Recipient → List ℕ
recipient_octets x = address_octets x.address ++ word_octets x.machine ++ word_octets x.acknowledge ++ word_octets x.reply

abbrev pub at_recipient_address : ℕ
at_recipient_address = 0

abbrev pub at_recipient_machine : ℕ
at_recipient_machine = 80

abbrev pub at_recipient_acknowledge : ℕ
at_recipient_acknowledge = 84

abbrev pub at_recipient_reply : ℕ
at_recipient_reply = 88

abbrev pub size_of_row : ℕ
size_of_row = 1592

unfoldable pub row_in : List ℕ → Row
row_in s = record { key = key_in (part 0 112 s); asked = requests_in (part 112 3 s); recipients = many recipient_in 92 16 (part 116 1472 s); count = word_in (part 1588 4 s) }

unfoldable pub row_octets : Row → List ℕ
row_octets x = key_octets x.key ++ requests_octets x.asked ++ zeros 1 ++ many_octets recipient_octets x.recipients ++ word_octets x.count

abbrev pub at_row_key : ℕ
at_row_key = 0

abbrev pub at_row_asked : ℕ
at_row_asked = 112

abbrev pub at_row_recipients : ℕ
at_row_recipients = 116

abbrev pub at_row_count : ℕ
at_row_count = 1588

abbrev pub size_of_row_recipients : ℕ
size_of_row_recipients = 1472

abbrev pub size_of_table : ℕ
size_of_table = 50948

unfoldable pub table_in : List ℕ → Table
table_in s = record { rows = many row_in 1592 32 (part 0 50944 s); count = word_in (part 50944 4 s) }

unfoldable pub table_octets : Table → List ℕ
table_octets x = many_octets row_octets x.rows ++ word_octets x.count

abbrev pub at_table_rows : ℕ
at_table_rows = 0

abbrev pub at_table_count : ℕ
at_table_count = 50944

abbrev pub size_of_table_rows : ℕ
size_of_table_rows = 50944
