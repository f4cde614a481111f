-- Parts of the listing's lines, of the structures of `src/`.
use Rattle.std.specs.Prelude.{ℕ, List, ◌∷◌, ◌++◌}
use Rattle.header.specs.declared.Requests.{Requests}
use Rattle.order.specs.Values.{address_of, option_of, key_of}
use Rattle.order.specs.declared.Key.{Key}
use Rattle.order.specs.Requests.{ask_of}
use Rattle.table.specs.Rows.{code_of, recipient_of}
use Rattle.table.specs.declared.Recipient.{Recipient}
use Rattle.row_text.specs.Text.{address_text, dtg_text, extension_text, request_text, recipient_line}

-- the key's line up to the extension
unfoldable pub key_text : Key → List ℕ
key_text k = address_text (address_of k.address) ++ 32 ∷ dtg_text (key_of k) ++ 32 ∷ extension_text (option_of k.stamp.extension)

-- a recipient's line behind the address
unfoldable pub requests_text : Requests → Recipient → List ℕ
requests_text a r =
    request_text a.machine 109 (code_of r.machine)
    ++ request_text a.acknowledge 111 (code_of r.acknowledge)
    ++ request_text a.reply 114 (code_of r.reply)

unfoldable pub line_of : Requests → Recipient → List ℕ
line_of a r = recipient_line (ask_of a) (recipient_of r)
