-- `inspect::well::row_fine` meets its contract. Assumes nothing.
use borrow.Author.Rules.{rules}
use borrow.Author.Tests.{le-leb}
use Prim.Native.Nat.{◌≤◌}
use Rattle.table.specs.WellFormed.{row_fine}
use Rattle.table_octets.specs.Table.{row_in}
use Rattle.inspect.proofs.well.row_fine.Goals as goal

pub returns-then-not-is_fine : goal.returns-then-not-is_fine
unfolding row_fine row_in
returns-then-not-is_fine c = rw (← c.check_key.ensures, ← c.is_fine.ensures, c.if-not-is_fine.true)

pub returns-then-not-any_asked : goal.returns-then-not-any_asked
unfolding row_fine row_in
returns-then-not-any_asked c = rw (← c.check_key.ensures, ← c.is_fine.ensures, c.if-not-is_fine.false, ← c.load_requests-asked.ensures, ← c.any_asked.ensures, c.if-not-any_asked.true)

pub returns-then-count-le16 : goal.returns-then-count-le16
unfolding row_fine row_in
returns-then-count-le16 c =
    let h : (1 ≤ c.load_word-count.result) × (c.load_word-count.result ≤ 16) = search rules in
    rw (← c.check_key.ensures, ← c.is_fine.ensures, c.if-not-is_fine.false, ← c.load_requests-asked.ensures, ← c.any_asked.ensures, c.if-not-any_asked.false, ← c.load_word-count.ensures, le-leb 1 _ h.0, le-leb _ 16 h.1) c.recipients_right.ensures

pub returns-else-count-le16 : goal.returns-else-count-le16
unfolding row_fine row_in
returns-else-count-le16 c = rw (← c.check_key.ensures, ← c.is_fine.ensures, c.if-not-is_fine.false, ← c.load_requests-asked.ensures, ← c.any_asked.ensures, c.if-not-any_asked.false, ← c.load_word-count.ensures) (search rules)
