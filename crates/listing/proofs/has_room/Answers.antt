-- `listing::has_room` meets its contract. Assumes nothing.
use borrow.Author.Tests.{le-leb}
use Prim.Native.Nat.{ℕ}
use mathlib.Core.Path.{ap, sym, ◌∙◌}
use native.Mathlib.Omega.{arith}
use lib.ListN.{length}
use lib.Dec.{leb}
use Rattle.table.specs.Rows.{see}
use Rattle.table.proofs.Parts.{fine-table}
use Rattle.table_octets.specs.Table.{table_in}
use Rattle.row_text.specs.Text.{listed}
use Rattle.row_text.proofs.Bounded.{listed-bounded}
use Rattle.listing.proofs.has_room.Goals as goal

pub returns-then-room-ge-LONGEST : goal.returns-then-room-ge-LONGEST
returns-then-room-ge-LONGEST c = le-leb 4096 c.args.room c.if-room-ge-LONGEST.true ∙ sym (le-leb (length (listed (see (table_in c.args.t.now)) c.args.number)) c.args.room (omega (arith, listed-bounded (table_in c.args.t.now) c.args.number c.requires.0)))

pub listed_length-requires : goal.listed_length-requires
listed_length-requires c = ((fine-table (table_in c.args.t.now) c.requires.0).fits, c.requires.1)

pub returns-else-room-ge-LONGEST : goal.returns-else-room-ge-LONGEST
returns-else-room-ge-LONGEST c = ap (λ (k : ℕ). leb k c.args.room) c.listed_length.ensures
