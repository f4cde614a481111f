-- Changes at the place where a search stopped keep a list fine and in order, with that a table well formed and a row fine. Assumes nothing.
use Prim.Native.Nat.{ℕ, zero, suc, ◌+◌, ◌<◌, ◌≤◌, Ordering}
use mathlib.Core.Path.{◌≡◌, ap, subst, ◌∙◌}
use mathlib.Core.Bool.{Bool, true, false, ◌||◌}
use mathlib.Core.List.{List, [], ◌∷◌, ◌++◌, map}
use mathlib.Core.Option.{none, some}
use lib.ListN.{take, drop, set}
use native.Mathlib.Numerals.{add-one}
use native.Mathlib.Omega.{arith}
use Rattle.header.specs.Rules.{all}
use Rattle.header.specs.declared.Requests.{Requests}
use Rattle.calls.specs.Keyed.{InOrder}
use Rattle.order.specs.Values.{address_of, Key, key_of, by_address, by_key, key_fault}
use Rattle.calls.proofs.Orders.{Order}
use Rattle.order.proofs.Orders.{by-address, by-key}
use Rattle.calls.proofs.Keyed.{sorted, put-in-order}
use Rattle.table.specs.Rows.{recipient_of, used_recipients, row_of, used_rows}
use Rattle.table.specs.Search.{Stopped, keys_of, addresses_of}
use Rattle.table.specs.WellFormed.{increasing, recipient_fine, row_fine, well_formed}
use Rattle.table.specs.declared.Recipient.{Recipient}
use Rattle.table.specs.declared.Row.{Row}
use Rattle.table.specs.declared.Table.{Table}
use Rattle.table.proofs.Parts.{and_both, fine-table, well-formed-table, fine-row, row-fine}
use Rattle.table.proofs.InOrder.{increasing-in-order, in-order-increasing}
use Rattle.table.proofs.Moves.{put-inserts, put-replaces, put-removes}

-- ---- a test that every cell passes

module _ {A : Type 0} (f : A → Bool) where
  all_tail : (x : A) (l : List A) → all f (x ∷ l) ≡ true → all f l ≡ true
  unfolding all
  all_tail x l e = (and_both (f x) (all f l) e).1

  all_more : (x : A) (l : List A) → f x ≡ true → all f l ≡ true → all f (x ∷ l) ≡ true
  unfolding all
  all_more x l p e = rw (p, e)

  all_first : (x : A) (l : List A) → all f (x ∷ l) ≡ true → f x ≡ true
  unfolding all
  all_first x l e = (and_both (f x) (all f l) e).0

  pub all_inserted : (a : A) (l : List A) (at : ℕ) → f a ≡ true → all f l ≡ true → all f (take at l ++ a ∷ drop at l) ≡ true
  all_inserted a l zero p e = all_more a l p e
  all_inserted a [] (suc at) p e = all_more a [] p e
  all_inserted a (x ∷ l) (suc at) p e = all_more x _ (all_first x l e) (all_inserted a l at p (all_tail x l e))

  pub all-replaced : (a : A) (l : List A) (at : ℕ) → f a ≡ true → all f l ≡ true → all f (set l at a) ≡ true
  all-replaced a [] at p e = e
  all-replaced a (x ∷ l) zero p e = all_more a l p (all_tail x l e)
  all-replaced a (x ∷ l) (suc at) p e = all_more x _ (all_first x l e) (all-replaced a l at p (all_tail x l e))

  pub all-removed : (l : List A) (at : ℕ) → all f l ≡ true → all f (take at l ++ drop (suc at) l) ≡ true
  all-removed [] zero e = e
  all-removed [] (suc at) e = e
  all-removed (x ∷ l) zero e = all_tail x l e
  all-removed (x ∷ l) (suc at) e = all_more x _ (all_first x l e) (all-removed l at (all_tail x l e))

-- ---- keys in order; h: the entry of a cell, its key and its value

module _ {A K W : Type 0} {cmp : K → K → Ordering} (O : Order cmp) (h : A → K × W) where
  pub order-inserted : (a : A) (l : List A) (at : ℕ) → Stopped cmp (h a).0 (map (λ x. (h x).0) l) at false → increasing cmp (map (λ x. (h x).0) l) ≡ true
      → increasing cmp (map (λ x. (h x).0) (take at l ++ a ∷ drop at l)) ≡ true
  order-inserted a l at s e =
      in-order-increasing O h (take at l ++ a ∷ drop at l)
      (subst (InOrder cmp) (put-inserts h a l at s) (put-in-order (sorted O) (h a).0 (some (h a).1) (map h l) (increasing-in-order O h l e)))

  pub order-replaced : (a : A) (l : List A) (at : ℕ) → Stopped cmp (h a).0 (map (λ x. (h x).0) l) at true → increasing cmp (map (λ x. (h x).0) l) ≡ true
      → increasing cmp (map (λ x. (h x).0) (set l at a)) ≡ true
  order-replaced a l at s e =
      in-order-increasing O h (set l at a)
      (subst (InOrder cmp) (put-replaces h a l at s) (put-in-order (sorted O) (h a).0 (some (h a).1) (map h l) (increasing-in-order O h l e)))

  pub order-removed : (k : K) (l : List A) (at : ℕ) → Stopped cmp k (map (λ x. (h x).0) l) at true → increasing cmp (map (λ x. (h x).0) l) ≡ true
      → increasing cmp (map (λ x. (h x).0) (take at l ++ drop (suc at) l)) ≡ true
  order-removed k l at s e =
      in-order-increasing O h (take at l ++ drop (suc at) l)
      (subst (InOrder cmp) (put-removes h k l at s) (put-in-order (sorted O) k none (map h l) (increasing-in-order O h l e)))

-- ---- the table

module _ (t r : Table) (at : ℕ) (well : well_formed t ≡ true) where
  kept : (l : List Row) → used_rows r ≡ l → r.count ≤ 32 → all row_fine l ≡ true → increasing by_key (map (λ x. key_of x.key) l) ≡ true → well_formed r ≡ true
  kept l e c f o =
      well-formed-table r (record {
        fits = c;
        rows = ap (all row_fine) e ∙ f;
        order = ap (λ (m : List Row). increasing by_key (map (λ x. key_of x.key) m)) e ∙ o;
      })

  pub inserted-well-formed : (row : Row) → row_fine row ≡ true → Stopped by_key (key_of row.key) (keys_of t) at false → t.count < 32 → r.count ≡ t.count + 1
      → used_rows r ≡ take at (used_rows t) ++ row ∷ drop at (used_rows t) → well_formed r ≡ true
  inserted-well-formed row f s c n e =
      let p = fine-table t well in
      kept _ e (omega arith) (all_inserted row_fine row (used_rows t) at f p.rows) (order-inserted by-key row_of row (used_rows t) at s p.order)

  pub replaced-well-formed : (row : Row) → row_fine row ≡ true → Stopped by_key (key_of row.key) (keys_of t) at true → r.count ≡ t.count
      → used_rows r ≡ set (used_rows t) at row → well_formed r ≡ true
  replaced-well-formed row f s n e =
      let p = fine-table t well in
      let c : t.count ≤ 32 = p.fits in
      kept _ e (omega arith) (all-replaced row_fine row (used_rows t) at f p.rows) (order-replaced by-key row_of row (used_rows t) at s p.order)

  pub removed-well-formed : (k : Key) → Stopped by_key k (keys_of t) at true → r.count + 1 ≡ t.count
      → used_rows r ≡ take at (used_rows t) ++ drop (at + 1) (used_rows t) → well_formed r ≡ true
  removed-well-formed k s n e =
      let p = fine-table t well in
      let c : t.count ≤ 32 = p.fits in
      kept _ (e ∙ ap (λ (n : ℕ). take at (used_rows t) ++ drop n (used_rows t)) (add-one at)) (omega arith) (all-removed row_fine (used_rows t) at p.rows) (order-removed by-key row_of k (used_rows t) at s p.order)

-- ---- a row

-- a recipient replaced by a fine one with the same address
pub replaced-row-fine : (row r : Row) (at : ℕ) (x : Recipient) → row_fine row ≡ true → recipient_fine row.asked x ≡ true
    → Stopped by_address (address_of x.address) (addresses_of row) at true → r.key ≡ row.key → r.asked ≡ row.asked → r.count ≡ row.count
    → used_recipients r ≡ set (used_recipients row) at x → row_fine r ≡ true
replaced-row-fine row r at x f g s k a n e =
    let p = fine-row row f in
    let least : 1 ≤ row.count = p.least in
    let most : row.count ≤ 16 = p.most in
    row-fine r (record {
      key = ap key_fault k ∙ p.key;
      asked = ap (λ (q : Requests). q.machine || q.acknowledge || q.reply) a ∙ p.asked;
      least = omega arith;
      most = omega arith;
      recipients =
          ap (λ (q : Requests). all (recipient_fine q) (used_recipients r)) a ∙ ap (all (recipient_fine row.asked)) e
          ∙ all-replaced (recipient_fine row.asked) x (used_recipients row) at g p.recipients;
      order =
          ap (λ (m : List Recipient). increasing by_address (map (λ y. address_of y.address) m)) e
          ∙ order-replaced by-address recipient_of x (used_recipients row) at s p.order;
    })
