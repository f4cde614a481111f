-- Where a search from the left stops among keys that are in order.
use Prim.Native.Nat.Ordering.{eq}
use Prim.Native.Nat.Ordering.{gt}
use Prim.Native.Nat.Ordering.{lt}
use Prim.Native.Nat.{ℕ, ◌<◌, ◌≤◌, Ordering}
use Rattle.std.specs.Prelude.{◌≡◌, Bool, true, false, List, map, length, get_or, Result, Ok, Err}
use Rattle.order.specs.Values.{Address, address_of, Key, key_of, by_key}
use Rattle.order.specs.declared.Key.{Key as DeclaredKey}
use Rattle.table.specs.Rows.{used_recipients, used_rows}
use Rattle.table.specs.declared.Row.{Row}
use Rattle.table.specs.declared.Table.{Table}

-- the place of k: every key before it comes before k; the key there is k where k is held, and otherwise comes behind k. A place outside the keys
-- holds nothing, so that any d may stand for it
pub record Stopped {K : Type 0} (cmp : K → K → Ordering) (k : K) (keys : List K) (at : ℕ) (held : Bool) : Type 0 where
  pub within : at ≤ length keys
  pub behind : (d : K) (j : ℕ) → j < at → cmp k (get_or keys j d) ≡ gt
  pub inside : held ≡ true → at < length keys
  pub same : (d : K) → held ≡ true → cmp k (get_or keys at d) ≡ eq
  pub before : (d : K) → held ≡ false → at < length keys → cmp k (get_or keys at d) ≡ lt

-- the keys of a table's rows
abbrev pub keys_of : Table → List Key
keys_of t = map (λ r. key_of r.key) (used_rows t)

-- the addresses of a row's recipients
abbrev pub addresses_of : Row → List Address
addresses_of r = map (λ x. address_of x.address) (used_recipients r)

-- what a search answers: the place of what is held, or the place where it would stand
abbrev pub Position : Type 0
Position = Result ℕ ℕ

abbrev pub index_of : Position → ℕ
index_of (Ok i) = i
index_of (Err i) = i

abbrev pub is_held : Position → Bool
is_held (Ok i) = true
is_held (Err i) = false

-- where the row with a key stands in a table, or would stand
abbrev pub Placed : Table → DeclaredKey → Position → Type 0
Placed t k p = (index_of p ≤ t.count) × (is_held p ≡ true → index_of p < t.count) × Stopped by_key (key_of k) (keys_of t) (index_of p) (is_held p)
