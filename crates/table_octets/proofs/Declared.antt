-- Every value of a declared type is as its type says: what the type says of the machine's value says how large numbers are, and how many cells arrays
-- have. Assumes nothing. Written by layout/generate.py.
use mathlib.Core.List.{List, [], ◌∷◌}
use mir.Val.{Val}
use denote.Array.{each}
use denote.Laws.{Is}
use denote.Shadow.{shadow}
use denote.Struct.Declared as declared
use Rattle.cells.specs.Cells.{Each}
use Rattle.order.specs.declared.Key.{Key}
use Rattle.order.specs.contracts.Key as «key»
use Rattle.table.specs.declared.Recipient.{Recipient}
use Rattle.table.specs.contracts.Recipient as «recipient»
use Rattle.table.specs.declared.Row.{Row}
use Rattle.table.specs.contracts.Row as «row»
use Rattle.table.specs.declared.Table.{Table}
use Rattle.table.specs.contracts.Table as «table»
use Rattle.record_octets.proofs.Declared.{address-typed, stamp-typed}
use Rattle.table_octets.specs.Typed.{TypedKey, TypedRecipient, TypedRow, TypedTable}

pub key-typed : (x : Key) (vs : List Val) → Is (declared.row «key».the_type) x vs → TypedKey x
key-typed x vs p = record { address = address-typed x.address _ p.1.1.0; stamp = stamp-typed x.stamp _ p.1.1.1.0 }

pub recipient-typed : (x : Recipient) (vs : List Val) → Is (declared.row «recipient».the_type) x vs → TypedRecipient x
recipient-typed x vs p = record { address = address-typed x.address _ p.1.1.0; machine = p.1.1.1.0.1; acknowledge = p.1.1.1.1.0.1; reply = p.1.1.1.1.1.0.1 }

recipient-each : (l : List Recipient) (us : List Val) → shadow (each («recipient».the_row).Denot («recipient».the_row).own_val l us) → Each TypedRecipient l
recipient-each [] us s = tt
recipient-each (x ∷ l) [] s = absurd s
recipient-each (x ∷ l) (u ∷ us) s = (recipient-typed x _ s.0, recipient-each l us s.1)

pub row-typed : (x : Row) (vs : List Val) → Is (declared.row «row».the_type) x vs → TypedRow x
row-typed x vs p = record { key = key-typed x.key _ p.1.1.0; recipients = (p.1.1.1.1.0.1.0.1, recipient-each x.recipients p.1.1.1.1.0.0 p.1.1.1.1.0.1.1); count = p.1.1.1.1.1.0.1 }

row-each : (l : List Row) (us : List Val) → shadow (each («row».the_row).Denot («row».the_row).own_val l us) → Each TypedRow l
row-each [] us s = tt
row-each (x ∷ l) [] s = absurd s
row-each (x ∷ l) (u ∷ us) s = (row-typed x _ s.0, row-each l us s.1)

pub table-typed : (x : Table) (vs : List Val) → Is (declared.row «table».the_type) x vs → TypedTable x
table-typed x vs p = record { rows = (p.1.1.0.1.0.1, row-each x.rows p.1.1.0.0 p.1.1.0.1.1); count = p.1.1.1.0.1 }
