-- Where a search stopped tells whether the key is held, and what it holds. Assumes nothing.
use Prim.Native.Nat.{ℕ, zero, suc, ◌<◌, ◌≤◌, Ordering}
use mathlib.Core.Path.{◌≡◌, refl, ap, ◌∙◌}
use mathlib.Core.Bool.{Bool, true, false}
use mathlib.Core.List.{List, [], ◌∷◌, map}
use mathlib.Core.Option.{none, some}
use lib.ListN.{length, take, get_or, length-map, length-take}
use lib.Seq.{get_or-take, length-take-le}
use native.Mathlib.Omega.{arith}
use Rattle.calls.specs.Keyed.{find, InOrder}
use Rattle.order.specs.Values.{Address, Key, by_address, by_key}
use Rattle.calls.proofs.Orders.{Order}
use Rattle.order.proofs.Orders.{by-address, by-key}
use Rattle.calls.proofs.Keyed.{sorted, find-lt}
use Rattle.table.specs.Rows.{recipient_of, used_recipients, row_of, used_rows, see}
use Rattle.table.specs.Search.{Stopped, keys_of, addresses_of}
use Rattle.table.specs.WellFormed.{row_fine, well_formed}
use Rattle.table.specs.declared.Recipient.{Recipient}
use Rattle.table.specs.declared.Row.{Row}
use Rattle.table.specs.declared.Table.{Table}
use Rattle.table.proofs.InOrder.{rows-in-order, recipients-in-order}

module _ {K : Type 0} {cmp : K → K → Ordering} {k : K} where
  -- behind the first key
  pub stopped-next : (x : K) (l : List K) (at : ℕ) (held : Bool) → Stopped cmp k (x ∷ l) (suc at) held → Stopped cmp k l at held
  stopped-next x l at held s =
      let w : suc at ≤ suc (length l) = s.within in
      record {
        within = omega arith;
        behind = λ d j p. s.behind d (suc j) (omega arith);
        inside = λ e. let i : suc at < suc (length l) = s.inside e in omega arith;
        same = λ d e. s.same d e;
        before = λ d e p. s.before d e (omega arith);
      }

  -- no key is left
  pub stopped-end : (at : ℕ) → Stopped cmp k [] (suc at) false → ⊥
  stopped-end at s = let w : suc at ≤ 0 = s.within in omega arith

  pub held-inside : (at : ℕ) → Stopped cmp k [] at true → ⊥
  held-inside at s = let i : at < 0 = s.inside refl in omega arith

-- h: the entry of a cell, its key and its value
module _ {A K W : Type 0} {cmp : K → K → Ordering} (h : A → K × W) (k : K) where
  pub find-held : (l : List A) (at : ℕ) (d : A) → Stopped cmp k (map (λ a. (h a).0) l) at true → find cmp k (map h l) ≡ some (h (get_or l at d)).1
  unfolding find
  find-held [] at d s = absurd (held-inside at s)
  find-held (x ∷ l) zero d s = rw (s.same k refl)
  find-held (x ∷ l) (suc at) d s = rw (s.behind k 0 (omega arith)) (find-held l at d (stopped-next _ _ at true s))

  pub find-free : (O : Order cmp) (l : List A) (at : ℕ) → Stopped cmp k (map (λ a. (h a).0) l) at false → InOrder cmp (map h l) → find cmp k (map h l) ≡ none
  unfolding find InOrder
  find-free O [] at s o = refl
  find-free O (x ∷ l) zero s o = find-lt (sorted O) k (h x) (map h l) o (s.before k refl (omega arith))
  find-free O (x ∷ l) (suc at) s o = rw (s.behind k 0 (omega arith)) (find-free O l at (stopped-next _ _ at false s) o.1)

-- ---- rows and recipients

-- a place that is inside the used cells is before their count
used-place : {A B : Type 0} (f : A → B) (n at : ℕ) (l : List A) → at < length (map f (take n l)) → at < n
used-place f n at l p = let q : at < length (map f (take n l)) = p in let z : length (map f (take n l)) ≡ _ = length-map (take n l) f ∙ length-take n l in omega arith

pub row-held : (t : Table) (k : Key) (at : ℕ) (d : Row) → Stopped by_key k (keys_of t) at true → find by_key k (see t) ≡ some (row_of (get_or t.rows at d)).1
unfolding see
row-held t k at d s =
    find-held row_of k (used_rows t) at d s
    ∙ ap (λ (r : Row). some (row_of r).1) (get_or-take t.count t.rows at d (used-place (λ r. (row_of r).0) t.count at t.rows (s.inside refl)))

pub row-free : (t : Table) (k : Key) (at : ℕ) → well_formed t ≡ true → Stopped by_key k (keys_of t) at false → find by_key k (see t) ≡ none
unfolding see
row-free t k at e s = find-free row_of k by-key (used_rows t) at s (rows-in-order t e)

pub recipient-held : (r : Row) (a : Address) (at : ℕ) (d : Recipient) → Stopped by_address a (addresses_of r) at true → find by_address a (map recipient_of (used_recipients r)) ≡ some (recipient_of (get_or r.recipients at d)).1
recipient-held r a at d s =
    find-held recipient_of a (used_recipients r) at d s
    ∙ ap (λ (x : Recipient). some (recipient_of x).1) (get_or-take r.count r.recipients at d (used-place (λ x. (recipient_of x).0) r.count at r.recipients (s.inside refl)))

pub recipient-free : (r : Row) (a : Address) (at : ℕ) → row_fine r ≡ true → Stopped by_address a (addresses_of r) at false → find by_address a (map recipient_of (used_recipients r)) ≡ none
recipient-free r a at e s = find-free recipient_of a by-address (used_recipients r) at s (recipients-in-order r e)

-- as many rows as the count says
pub length-see : (t : Table) → t.count ≤ length t.rows → length (see t) ≡ t.count
unfolding see
length-see t h = length-map (used_rows t) row_of ∙ length-take-le t.count t.rows h
