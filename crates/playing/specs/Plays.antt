-- What a datagram does to the table of pending messages: its blocks are calls, one after another.
use Rattle.std.specs.Prelude.{ℕ, zero, suc, ◌≡◌, List, length}
use Rattle.codec.specs.Answer.{pick}
use Rattle.header.specs.declared.Header.{Header}
use Rattle.order.specs.Calls.{Rows, on_table}
use Rattle.table.specs.Rows.{see}
use Rattle.table.specs.WellFormed.{well_formed}
use Rattle.table.specs.declared.Table.{Table}
use Rattle.table_octets.specs.Table.{table_in}
use Rattle.arguments.specs.Arguments.{Arguments, posting, receiving, block_at, call_of}
use Rattle.pending.specs.Calls.{rows_after}
use Rattle.reader.specs.Reading.{Reading, accepted, rejected, reading, user_data}

-- the call of block n, given the count of user data: a receipt where the block has G8, otherwise a posting
unfoldable pub turn : Header → ℕ → ℕ → Arguments
turn h n count = pick (block_at h n).response.present (receiving h n count) (posting h n count)

-- the rows behind the calls of the first n blocks, the first block's call first; a refused call leaves them as they are
unfoldable pub after : Header → ℕ → Rows → ℕ → Rows
after h count rows zero = rows
after h count rows (suc n) = (on_table (call_of (turn h (suc n) count)) (after h count rows n)).1

-- an ill-formed table is refused by every call
abbrev pub rows_of : Header → ℕ → Table → ℕ → Rows
rows_of h count t n = pick (well_formed t) (after h count (see t) n) (see t)

-- a datagram's rows: all its blocks' calls where it is accepted, no call where it is refused
unfoldable pub played_by : List ℕ → Table → Reading → Rows
played_by s t (accepted h n) = rows_of h (length (user_data s)) t h.blocks.count
played_by s t (rejected f p b) = see t

abbrev pub played : Table → List ℕ → Rows
played t s = played_by s t (reading s)

-- one call given the table's octets t leaves t': the rows are those behind the call, and a well-formed table stays well formed
pub record Plays (a : Arguments) (t t' : List ℕ) : Type 0 where
  pub rows : see (table_in t') ≡ rows_after a (table_in t)
  pub well : well_formed (table_in t') ≡ well_formed (table_in t)
