-- When two tables are the same, as document 01 has it: the counts agree, and the used rows and the used recipients are the same, one by one; unused cells carry no
-- meaning. Structure by structure; a field that is always present and has no unused cell is compared as it stands. (`same_array` asks for equally many cells too:
-- the arrays of the declared types always have their 32, 16 or 64.)
use Rattle.std.specs.Prelude.{ℕ, ◌≡◌}
use mathlib.Core.List.{Forall₂}
use Rattle.codec.specs.Same.{◌and◌, same_array}
use Rattle.header.specs.Same.{same_address, same_stamp, Same}
use Rattle.header.specs.declared.Header.{Header}
use Rattle.order.specs.declared.Key.{Key}
use Rattle.table.specs.declared.Recipient.{Recipient}
use Rattle.table.specs.declared.Row.{Row}
use Rattle.table.specs.declared.Table.{Table}
use Rattle.arguments.specs.Arguments.{Arguments, posting, receiving, releasing}

unfoldable pub same_key : Key → Key → Type 0
same_key x y = same_address x.address y.address and same_stamp x.stamp y.stamp

-- the address, and the code at each request
unfoldable pub same_recipient : Recipient → Recipient → Type 0
same_recipient x y = same_address x.address y.address and x.machine ≡ y.machine and x.acknowledge ≡ y.acknowledge and x.reply ≡ y.reply

-- the used recipients are the same, one by one
unfoldable pub same_row : Row → Row → Type 0
same_row x y = same_key x.key y.key and x.asked ≡ y.asked and same_array (Forall₂ same_recipient) (x.recipients, x.count) (y.recipients, y.count)

-- the used rows are the same, one by one
unfoldable pub SameTable : Table → Table → Type 0
SameTable x y = same_array (Forall₂ same_row) (x.rows, x.count) (y.rows, y.count)

-- the same arguments: the same record with the same block number and count of user data; or the same key
pub data SameArguments : Arguments → Arguments → Type 0 where
  same_posting : {g h : Header} {n count : ℕ} → Same g h → SameArguments (posting g n count) (posting h n count)
  same_receiving : {g h : Header} {n count : ℕ} → Same g h → SameArguments (receiving g n count) (receiving h n count)
  same_releasing : {j k : Key} → same_key j k → SameArguments (releasing j) (releasing k)
