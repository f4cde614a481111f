-- A recipient and a row that nothing uses: every cell 0.
use Rattle.std.specs.Prelude.{replicate}
use Rattle.header.specs.Zero.{no_address, no_stamp, no_requests}
use Rattle.table.specs.declared.Recipient.{Recipient}
use Rattle.table.specs.declared.Row.{Row}

unfoldable pub no_recipient : Recipient
no_recipient = record { address = no_address; machine = 0; acknowledge = 0; reply = 0 }

unfoldable pub no_row : Row
no_row = record { key = record { address = no_address; stamp = no_stamp }; asked = no_requests; recipients = replicate 16 no_recipient; count = 0 }
