-- What the declared types say of a table's values, struct by struct: numbers are below 2^32, arrays have their cells. Every value that code holds is so
-- (proofs/Declared.antt). Written by layout/generate.py.
use Rattle.std.specs.Prelude.{ℕ, ◌<◌, ◌≡◌, List, length}
use Rattle.cells.specs.Cells.{Each}
use Rattle.order.specs.declared.Key.{Key}
use Rattle.table.specs.declared.Recipient.{Recipient}
use Rattle.table.specs.declared.Row.{Row}
use Rattle.table.specs.declared.Table.{Table}
use Rattle.record_octets.specs.Typed.{TypedAddress, TypedStamp}

pub record TypedKey (x : Key) : Type 0 where
  pub address : TypedAddress x.address
  pub stamp : TypedStamp x.stamp

pub record TypedRecipient (x : Recipient) : Type 0 where
  pub address : TypedAddress x.address
  pub machine : x.machine < 4294967296
  pub acknowledge : x.acknowledge < 4294967296
  pub reply : x.reply < 4294967296

pub record TypedRow (x : Row) : Type 0 where
  pub key : TypedKey x.key
  pub recipients : (length x.recipients ≡ 16) × Each TypedRecipient x.recipients
  pub count : x.count < 4294967296

pub record TypedTable (x : Table) : Type 0 where
  pub rows : (length x.rows ≡ 32) × Each TypedRow x.rows
  pub count : x.count < 4294967296
