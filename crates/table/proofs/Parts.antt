-- What a well-formed table and a fine row consist of, both ways. Assumes nothing.
use Prim.Native.Nat.{ℕ, zero, suc, ◌<◌, ◌≤◌}
use mathlib.Core.Path.{◌≡◌, refl, ap, sym, ◌∙◌}
use mathlib.Core.Bool.{Bool, true, false, ◌&&◌, ◌||◌}
use mathlib.Core.List.{List, [], ◌∷◌}
use lib.ListN.{length, get_or}
use lib.Seq.{get_or-take, length-take-le}
use borrow.Author.Tests.{leb-true, le-leb, eqb-true, eq-eqb}
use native.Mathlib.Omega.{arith}
use Rattle.header.specs.Rules.{all}
use Rattle.order.specs.Values.{by_address, by_key, key_fault}
use Rattle.table.specs.Rows.{used_recipients, used_rows}
use Rattle.table.specs.Search.{keys_of, addresses_of}
use Rattle.table.specs.WellFormed.{increasing, recipient_fine, row_fine, well_formed}
use Rattle.table.specs.declared.Row.{Row}
use Rattle.table.specs.declared.Table.{Table}

pub and_both : (a b : Bool) → a && b ≡ true → (a ≡ true) × (b ≡ true)
and_both true b e = (refl, e)
and_both false b e = (cc, cc)

pub record FineTable (t : Table) : Type 0 where
  pub fits : t.count ≤ 32
  pub rows : all row_fine (used_rows t) ≡ true
  pub order : increasing by_key (keys_of t) ≡ true

pub fine-table : (t : Table) → well_formed t ≡ true → FineTable t
unfolding well_formed
fine-table t e =
    let p = and_both _ _ e in
    let q = and_both _ _ p.0 in
    record { fits = leb-true _ 32 q.0; rows = q.1; order = p.1 }

pub well-formed-table : (t : Table) → FineTable t → well_formed t ≡ true
unfolding well_formed
well-formed-table t f = rw (le-leb _ 32 f.fits, f.rows, f.order)

pub record FineRow (r : Row) : Type 0 where
  pub key : key_fault r.key ≡ 0
  pub asked : r.asked.machine || r.asked.acknowledge || r.asked.reply ≡ true
  pub least : 1 ≤ r.count
  pub most : r.count ≤ 16
  pub recipients : all (recipient_fine r.asked) (used_recipients r) ≡ true
  pub order : increasing by_address (addresses_of r) ≡ true

pub fine-row : (r : Row) → row_fine r ≡ true → FineRow r
unfolding row_fine
fine-row r e =
    let p = and_both _ _ e in
    let q = and_both _ _ p.0 in
    let s = and_both _ _ q.0 in
    let u = and_both _ _ s.0 in
    let v = and_both _ _ u.0 in
    record { key = eqb-true _ 0 v.0; asked = v.1; least = leb-true 1 _ u.1; most = leb-true _ 16 s.1; recipients = q.1; order = p.1 }

pub row-fine : (r : Row) → FineRow r → row_fine r ≡ true
unfolding row_fine
row-fine r f = rw (eq-eqb _ 0 f.key, f.asked, le-leb 1 _ f.least, le-leb _ 16 f.most, f.recipients, f.order)

-- what all have, each has
pub all-at : {A : Type 0} (f : A → Bool) (l : List A) (j : ℕ) (d : A) → all f l ≡ true → j < length l → f (get_or l j d) ≡ true
unfolding all
all-at f [] j d e p = absurd (omega arith)
all-at f (x ∷ l) zero d e p = (and_both _ _ e).0
all-at f (x ∷ l) (suc j) d e p = all-at f l j d (and_both (f x) _ e).1 (omega arith)

-- each used row is fine
pub row_at : (t : Table) (j : ℕ) (d : Row) → well_formed t ≡ true → t.count ≤ length t.rows → j < t.count → row_fine (get_or t.rows j d) ≡ true
row_at t j d e h p =
    sym (ap row_fine (get_or-take t.count t.rows j d p))
    ∙ all-at row_fine (used_rows t) j d (fine-table t e).rows (rw (length-take-le t.count t.rows h) p)
