-- Strictly increasing keys are keys in order, and the other way round. Assumes nothing.
use Prim.Native.Nat.Ordering.{eq}
use Prim.Native.Nat.Ordering.{gt}
use Prim.Native.Nat.Ordering.{lt}
use Prim.Native.Nat.{Ordering}
use mathlib.Core.Path.{◌≡◌, refl, sym, ◌∙◌}
use mathlib.Core.Bool.{true, false}
use mathlib.Core.List.{List, [], ◌∷◌, map}
use mathlib.Core.Option.{none, some}
use Rattle.calls.specs.Order.{choose, NotGt}
use Rattle.calls.specs.Keyed.{find, InOrder}
use Rattle.order.specs.Values.{by_address, by_key}
use Rattle.calls.proofs.Orders.{Order, cmp-same, cases}
use Rattle.order.proofs.Orders.{by-address, by-key}
use Rattle.calls.proofs.Keyed.{sorted, past-order, find-lt}
use Rattle.table.specs.Rows.{recipient_of, used_recipients, row_of, used_rows, see}
use Rattle.table.specs.Search.{keys_of, addresses_of}
use Rattle.table.specs.WellFormed.{increasing, row_fine, well_formed}
use Rattle.table.specs.declared.Row.{Row}
use Rattle.table.specs.declared.Table.{Table}
use Rattle.table.proofs.Parts.{and_both, fine-table, fine-row}

told-lt : (o : Ordering) → choose o true false false ≡ true → o ≡ lt
told-lt lt e = refl
told-lt eq e = cc
told-lt gt e = cc

-- h: the entry of a cell, its key and its value
module _ {A K W : Type 0} {cmp : K → K → Ordering} (O : Order cmp) (h : A → K × W) where
  pub increasing-in-order : (l : List A) → increasing cmp (map (λ a. (h a).0) l) ≡ true → InOrder cmp (map h l)
  unfolding increasing InOrder find
  increasing-in-order [] e = tt
  increasing-in-order (x ∷ []) e = (λ k m. refl, tt)
  increasing-in-order (x ∷ y ∷ l) e =
      let p = and_both (choose (cmp (h x).0 (h y).0) true false false) _ e in
      let s = increasing-in-order (y ∷ l) p.1 in
      (λ k m. find-lt (sorted O) k (h y) (map h l) s (past-order O k (h x).0 (h y).0 m (told-lt _ p.0)), s)

  pub in-order-increasing : (l : List A) → InOrder cmp (map h l) → increasing cmp (map (λ a. (h a).0) l) ≡ true
  unfolding increasing InOrder find
  in-order-increasing [] s = refl
  in-order-increasing (x ∷ []) s = refl
  in-order-increasing (x ∷ y ∷ l) s = rw next (in-order-increasing (y ∷ l) s.1)
    where
      found : NotGt (cmp (h y).0 (h x).0) → cmp (h x).0 (h y).0 ≡ lt
      found n = let z : some (h y).1 ≡ none = sym (rw (cmp-same O (h y).0)) ∙ s.0 (h y).0 n in cc

      next : cmp (h x).0 (h y).0 ≡ lt
      next = cases (cmp (h y).0 (h x).0) (λ e. found (rw e tt)) (λ e. found (rw e tt)) (λ e. O.swap (h y).0 (h x).0 ∙ rw e)

-- ---- rows and recipients

pub rows-in-order : (t : Table) → well_formed t ≡ true → InOrder by_key (see t)
unfolding see
rows-in-order t e = increasing-in-order by-key row_of (used_rows t) (fine-table t e).order

pub rows-increasing : (t : Table) → InOrder by_key (see t) → increasing by_key (keys_of t) ≡ true
unfolding see
rows-increasing t s = in-order-increasing by-key row_of (used_rows t) s

pub recipients-in-order : (r : Row) → row_fine r ≡ true → InOrder by_address (map recipient_of (used_recipients r))
recipients-in-order r e = increasing-in-order by-address recipient_of (used_recipients r) (fine-row r e).order

pub recipients-increasing : (r : Row) → InOrder by_address (map recipient_of (used_recipients r)) → increasing by_address (addresses_of r) ≡ true
recipients-increasing r s = in-order-increasing by-address recipient_of (used_recipients r) s
