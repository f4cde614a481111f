-- The place of a key among rows that are looked at from the left.
use Prim.Native.Nat.{ℕ, ◌+◌, Ordering}
use Rattle.std.specs.Prelude.{ltb, Ok, Err}
use Rattle.codec.specs.Answer.{pick}
use Rattle.calls.specs.Order.{choose}
use Rattle.table.specs.Search.{Position, index_of}

-- the place so far, one row further, where the key that is sought compares so with the i-th row's: a place that was found stays
unfoldable pub further : ℕ → Ordering → Position → Position
further i c p = pick (ltb (index_of p) i) p (choose c p (Ok i) (Err (i + 1)))
