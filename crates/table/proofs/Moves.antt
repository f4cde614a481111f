-- A row or a recipient put in, replaced or taken out where a search for its key stopped: the one change of a list of keys with values. Assumes nothing.
use Prim.Native.Nat.{ℕ, zero, suc, ◌+◌, Ordering}
use mathlib.Core.Path.{◌≡◌, refl, ap, sym, ◌∙◌}
use mathlib.Core.Bool.{true, false}
use mathlib.Core.List.{List, [], ◌∷◌, ◌++◌, map}
use mathlib.Core.Option.{none, some}
use lib.ListN.{take, drop, set}
use native.Mathlib.Numerals.{add-one}
use native.Mathlib.Omega.{arith}
use Rattle.calls.specs.Keyed.{put, alter}
use Rattle.order.specs.Values.{Key, by_address, by_key}
use Rattle.calls.proofs.Orders.{Order}
use Rattle.order.proofs.Orders.{by-address}
use Rattle.table.specs.Rows.{recipient_of, used_recipients, row_of, used_rows, see}
use Rattle.table.specs.Search.{Stopped, keys_of, addresses_of}
use Rattle.table.specs.declared.Recipient.{Recipient}
use Rattle.table.specs.declared.Row.{Row}
use Rattle.table.specs.declared.Table.{Table}
use Rattle.table.proofs.Search.{stopped-next, stopped-end, held-inside}

-- h: the entry of a cell, its key and its value
module _ {A K W : Type 0} {cmp : K → K → Ordering} (h : A → K × W) where
  pub put-inserts : (a : A) (l : List A) (at : ℕ) → Stopped cmp (h a).0 (map (λ x. (h x).0) l) at false → put cmp (h a).0 (some (h a).1) (map h l) ≡ map h (take at l ++ a ∷ drop at l)
  unfolding put
  put-inserts a [] zero s = refl
  put-inserts a [] (suc at) s = absurd (stopped-end at s)
  put-inserts a (x ∷ l) zero s = rw (s.before (h a).0 refl (omega arith))
  put-inserts a (x ∷ l) (suc at) s = rw (s.behind (h a).0 0 (omega arith)) (ap (λ r. h x ∷ r) (put-inserts a l at (stopped-next _ _ at false s)))

  pub put-replaces : (a : A) (l : List A) (at : ℕ) → Stopped cmp (h a).0 (map (λ x. (h x).0) l) at true → put cmp (h a).0 (some (h a).1) (map h l) ≡ map h (set l at a)
  unfolding put
  put-replaces a [] at s = absurd (held-inside at s)
  put-replaces a (x ∷ l) zero s = rw (s.same (h a).0 refl)
  put-replaces a (x ∷ l) (suc at) s = rw (s.behind (h a).0 0 (omega arith)) (ap (λ r. h x ∷ r) (put-replaces a l at (stopped-next _ _ at true s)))

  pub put-removes : (k : K) (l : List A) (at : ℕ) → Stopped cmp k (map (λ x. (h x).0) l) at true → put cmp k none (map h l) ≡ map h (take at l ++ drop (suc at) l)
  unfolding put
  put-removes k [] at s = absurd (held-inside at s)
  put-removes k (x ∷ l) zero s = rw (s.same k refl)
  put-removes k (x ∷ l) (suc at) s = rw (s.behind k 0 (omega arith)) (ap (λ r. h x ∷ r) (put-removes k l at (stopped-next _ _ at true s)))

  -- the value changed in place
  pub alter-replaces : Order cmp → (a : A) (l : List A) (at : ℕ) → Stopped cmp (h a).0 (map (λ x. (h x).0) l) at true → alter cmp (h a).0 (λ o. (h a).1) (map h l) ≡ map h (set l at a)
  unfolding alter
  alter-replaces O a [] at s = absurd (held-inside at s)
  alter-replaces O a (x ∷ l) zero s =
      let e = s.same (h a).0 refl in
      rw e (ap (λ k. (k, (h a).1) ∷ map h l) (sym (O.eq→ (h a).0 (h x).0 e)))
  alter-replaces O a (x ∷ l) (suc at) s = rw (s.behind (h a).0 0 (omega arith)) (ap (λ r. h x ∷ r) (alter-replaces O a l at (stopped-next _ _ at true s)))

-- ---- rows

module _ (t r : Table) (at : ℕ) where
  pub see-inserted : (row : Row) → Stopped by_key (row_of row).0 (keys_of t) at false → used_rows r ≡ take at (used_rows t) ++ row ∷ drop at (used_rows t)
      → see r ≡ put by_key (row_of row).0 (some (row_of row).1) (see t)
  unfolding see
  see-inserted row s e = ap (map row_of) e ∙ sym (put-inserts row_of row (used_rows t) at s)

  pub see-replaced : (row : Row) → Stopped by_key (row_of row).0 (keys_of t) at true → used_rows r ≡ set (used_rows t) at row
      → see r ≡ put by_key (row_of row).0 (some (row_of row).1) (see t)
  unfolding see
  see-replaced row s e = ap (map row_of) e ∙ sym (put-replaces row_of row (used_rows t) at s)

  pub see-removed : (k : Key) → Stopped by_key k (keys_of t) at true → used_rows r ≡ take at (used_rows t) ++ drop (at + 1) (used_rows t)
      → see r ≡ put by_key k none (see t)
  unfolding see
  see-removed k s e = ap (map row_of) (e ∙ ap (λ (n : ℕ). take at (used_rows t) ++ drop n (used_rows t)) (add-one at)) ∙ sym (put-removes row_of k (used_rows t) at s)

-- ---- recipients

module _ (row r : Row) (at : ℕ) (x : Recipient) where
  pub recipients-inserted : Stopped by_address (recipient_of x).0 (addresses_of row) at false → used_recipients r ≡ take at (used_recipients row) ++ x ∷ drop at (used_recipients row)
      → map recipient_of (used_recipients r) ≡ put by_address (recipient_of x).0 (some (recipient_of x).1) (map recipient_of (used_recipients row))
  recipients-inserted s e = ap (map recipient_of) e ∙ sym (put-inserts recipient_of x (used_recipients row) at s)

  pub recipients-replaced : Stopped by_address (recipient_of x).0 (addresses_of row) at true → used_recipients r ≡ set (used_recipients row) at x
      → map recipient_of (used_recipients r) ≡ alter by_address (recipient_of x).0 (λ m. (recipient_of x).1) (map recipient_of (used_recipients row))
  recipients-replaced s e = ap (map recipient_of) e ∙ sym (alter-replaces recipient_of by-address x (used_recipients row) at s)
