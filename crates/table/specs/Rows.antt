-- What a table means: the list of its used rows.
use Rattle.std.specs.Prelude.{ℕ, ◌≡◌, cond, List, [], ◌∷◌, map, length, take, eqb}
use Rattle.std.proofs.Math.Option.{Option, none, some}
use Rattle.order.specs.Values.{Address, address_of, Key, key_of}
use Rattle.order.specs.Requests.{Ask, Mark, ask_of}
use Rattle.order.specs.Calls.{Rows}
use Rattle.table.specs.declared.Recipient.{Recipient}
use Rattle.table.specs.declared.Row.{Row}
use Rattle.table.specs.declared.Table.{Table}

-- a code cell: 0 is no code
unfoldable pub code_of : ℕ → Option ℕ
code_of n = cond (eqb n 0) none (some n)

unfoldable pub mark_of : Recipient → Mark
mark_of r = record { machine = code_of r.machine; acknowledge = code_of r.acknowledge; reply = code_of r.reply }

abbrev pub recipient_of : Recipient → Address × Mark
recipient_of r = (address_of r.address, mark_of r)

abbrev pub used_recipients : Row → List Recipient
used_recipients r = take r.count r.recipients

abbrev pub row_of : Row → Key × (Ask × List (Address × Mark))
row_of r = (key_of r.key, (ask_of r.asked, map recipient_of (used_recipients r)))

abbrev pub used_rows : Table → List Row
used_rows t = take t.count t.rows

-- the rows of a table
unfoldable pub see : Table → Rows
see t = map row_of (used_rows t)

-- the arrays have their cells. (Every table of the declared type has them, a record of this logic need not.)
abbrev pub WholeRows : List Row → Type 0
WholeRows [] = Unit {0}
WholeRows (r ∷ rs) = (length r.recipients ≡ 16) × WholeRows rs

abbrev pub Whole : Table → Type 0
Whole t = (length t.rows ≡ 32) × WholeRows t.rows
