-- What one look at the rows of a table tells of it. Assumes nothing.
use Prim.Native.Nat.{ℕ, ◌<◌, ◌≤◌}
use mathlib.Core.Path.{◌≡◌}
use mathlib.Core.Bool.{Bool, false, ◌&&◌}
use mathlib.Core.List.{map}
use native.Mathlib.Omega.{arith}
use lib.ListN.{length}
use borrow.Author.Tests.{le-leb, lt-leb}
use Rattle.header.specs.Rules.{all}
use Rattle.order.specs.Values.{key_of, by_key}
use Rattle.order.specs.declared.Key.{Key}
use Rattle.table.specs.Rows.{used_rows}
use Rattle.table.specs.Search.{Placed}
use Rattle.table.specs.WellFormed.{row_fine, increasing, well_formed}
use Rattle.table.specs.Search.{Position}
use Rattle.table.specs.declared.Table.{Table}
use Rattle.inspect.proofs.Sought.{Sought, sought-held, sought-all}

pub over : (t : Table) (n : ℕ) → n ≡ t.count → 32 < n → false ≡ well_formed t
unfolding well_formed
over t n e l = rw (lt-leb t.count 32 (omega arith))

-- the rows, of a table with at most 32
pub within : (t : Table) (b : Bool) → t.count ≤ 32 → b ≡ all row_fine (used_rows t) && increasing by_key (map (λ r. key_of r.key) (used_rows t)) → b ≡ well_formed t
unfolding well_formed
within t b l e = rw (le-leb _ 32 l) e

pub placed : (t : Table) (k : Key) (i : ℕ) (p : Position) → t.count ≤ length t.rows → Sought by_key (λ r. key_of r.key) (key_of k) t.count t.rows i p → t.count ≤ i → Placed t k p
placed t k i p h s e = (
  omega (arith, s.top, s.within),
  λ z. omega (arith, s.top, sought-held _ _ _ _ _ i p s z),
  sought-all _ _ _ _ _ h i p s e,
)
