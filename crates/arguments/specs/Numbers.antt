-- The number of each kind of refusal of a call.
use Rattle.std.specs.Prelude.{ℕ}
use Rattle.codec.specs.Refusals.{fault_no}
use Rattle.arguments.specs.declared.PendingFault.{PendingFault}
use Rattle.arguments.specs.declared.PendingFault.TheVariants.{Record, NothingAsked, NoRecipient, KeyHeld, TableFull, NoResponse, NotOneRecipient, NoRow, NotARecipient, NothingOpen, NoBlock, IllFormed}

-- document 01's number of a refusal
unfoldable pub pending_no : PendingFault → ℕ
-- the record's own, or the key's
pending_no (Record f) = fault_no f
-- no G7, or none of its requests is set
pending_no NothingAsked = 20
pending_no NoRecipient = 21
pending_no KeyHeld = 22
-- all 32 rows are held
pending_no TableFull = 23
-- no G8
pending_no NoResponse = 24
-- G1 is absent, or G2 has no entry or several
pending_no NotOneRecipient = 25
-- no row has the key
pending_no NoRow = 26
-- the answerer is no recipient of the row
pending_no NotARecipient = 27
-- no open request that the code answers
pending_no NothingOpen = 28
-- no such block, counted from 1
pending_no NoBlock = 29
-- the table is not well formed
pending_no IllFormed = 30
