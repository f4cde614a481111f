-- Receipts, way by way: what the code has found out gives what the operation promises. Assumes nothing.
use Prim.Native.Nat.{ℕ, zero, suc, ◌<◌, ◌≤◌}
use mathlib.Core.Path.{◌≡◌, refl, ap, sym, ◌∙◌, subst}
use mathlib.Core.Bool.{Bool, true, false, not, cond, false≢true}
use mathlib.Core.List.{List, [], ◌∷◌, map}
use mathlib.Core.Logic.{inr}
use mathlib.Core.Option.{Option, none, some}
use lib.ListN.{length, take, get_or, set, length-take, get_or-map}
use lib.Seq.{get_or-take, take-set-lt}
use lib.Dec.{lit<, eqb}
use borrow.Author.Tests.{eq-eqb}
use native.Mathlib.Omega.{arith}
use Rattle.codec.specs.Answer.{pick}
use Rattle.codec.specs.Verdict.{Verdict, plain, fine, first_of}
use Rattle.codec.proofs.ListLaws.{length-map}
use Rattle.codec.proofs.Verdicts.{first_some, first_fine}
use Rattle.header.specs.declared.Address.{Address as DeclaredAddress}
use Rattle.order.specs.Values.{Address, address_of, key_of, by_address, by_key}
use Rattle.calls.specs.Keyed.{find, put, alter}
use Rattle.order.specs.Requests.{Mark, settle, ask_of}
use Rattle.calls.specs.Machine.{step}
use Rattle.calls.specs.Operations as theory
use Rattle.calls.specs.Operations.{receipt}
use Rattle.order.specs.Calls.{Operation, Call, Row as Cells, written, reply, replied, mark, marked, rules, on_table}
use Rattle.order.specs.declared.Key.{Key as DeclaredKey}
use Rattle.calls.proofs.Orders.{Order}
use Rattle.order.proofs.Orders.{by-address, by-key}
use Rattle.table.specs.Rows.{see, mark_of, row_of, recipient_of, used_rows, used_recipients}
use Rattle.table.specs.Search.{Stopped, keys_of, addresses_of, Position, index_of, is_held, Placed}
use Rattle.table.specs.WellFormed.{well_formed, row_fine, recipient_fine}
use Rattle.table.specs.declared.Recipient.{Recipient}
use Rattle.table.specs.declared.Row.{Row}
use Rattle.table.specs.declared.Table.{Table}
use Rattle.table.proofs.Search.{row-held, row-free, recipient-held, recipient-free}
use Rattle.table.proofs.Moves.{see-replaced, recipients-replaced}
use Rattle.table.proofs.Kept.{replaced-well-formed, replaced-row-fine}
use Rattle.table.proofs.Parts.{fine-table, fine-row, all-at}
use Rattle.arguments.specs.Arguments.{named}
use Rattle.transitions.proofs.OnValues.{OnValues}
use Rattle.transitions.proofs.Marks.{settled-fine}
use Rattle.transitions.proofs.Outcomes.{values-refused, values-done, values-kept, named-fine, passed, acts, receipt-missing}
use Rattle.transitions.proofs.Ways.{held-there}

-- what is found at a place is what is sought
found : {A K : Type 0} {cmp : K → K → _} (O : Order cmp) (f : A → K) (k : K) (l : List A) (at : ℕ) (d : A) → Stopped cmp k (map f l) at true → f (get_or l at d) ≡ k
found O f k l at d s = sym (O.eq→ k (f (get_or l at d)) (rw (get_or-map f l at d) at (s.same (f d) refl)))

pub chosen : {A : Type 0} (b : Bool) (x : Option A) → b ≡ false → cond b x none ≡ none
chosen b x e = rw e

pub picked : {A : Type 0} (b : Bool) (x : A) → b ≡ true → cond b (some x) none ≡ some x
picked b x e = rw e

-- ---- a row

module _ (row : Row) (fine : row_fine row ≡ true) (from : DeclaredAddress) (code : ℕ) where
  abbrev w : Address
  w = address_of from

  abbrev r : Cells
  r = (row_of row).1

  pub row-stranger : (at : ℕ) → Stopped by_address w (addresses_of row) at false → (27 ≡ (replied w code r).0) × (r ≡ (r.0, mark w (replied w code r).1 r.1))
  row-stranger at s = let e = recipient-free row w at fine s in (rw e, rw e)

  module _ (at : ℕ) (d : Recipient) (s : Stopped by_address w (addresses_of row) at true) where
    abbrev x : Recipient
    x = get_or row.recipients at d

    here : find by_address w r.1 ≡ some (mark_of x)
    here = recipient-held row w at d s

    pub row-shut : settle (ask_of row.asked) code (mark_of x) ≡ none → (28 ≡ (replied w code r).0) × (r ≡ (r.0, mark w (replied w code r).1 r.1))
    row-shut e = (rw (here, e), rw (here, e))

    -- the recipient settled, in its place
    module _ (y : Recipient) (same : y.address ≡ x.address) (e : settle (ask_of row.asked) code (mark_of x) ≡ some (mark_of y)) (after : Row) (key : after.key ≡ row.key) (asked : after.asked ≡ row.asked) (count : after.count ≡ row.count) (cells : used_recipients after ≡ set (used_recipients row) at y) where
      used : at < row.count
      used = used-cells at row.count row.recipients (s.inside refl)
        where
          used-cells : (i n : ℕ) (l : List Recipient) → i < length (map (λ z. address_of z.address) (take n l)) → i < n
          used-cells i n l h = omega (arith, length-map (λ (z : Recipient). address_of z.address) (take n l), length-take n l)

      there : address_of y.address ≡ w
      there =
          ap address_of same
          ∙ ap (λ (z : Recipient). address_of z.address) (sym (get_or-take row.count row.recipients at d used))
          ∙ found by-address (λ (z : Recipient). address_of z.address) w (used_recipients row) at d s

      placed : Stopped by_address (address_of y.address) (addresses_of row) at true
      placed = rw there s

      pub row-answered : 0 ≡ (replied w code r).0
      row-answered = rw (here, e)

      pub row-after : (row_of after).1 ≡ (r.0, mark w (replied w code r).1 r.1)
      row-after =
          let a : map recipient_of (used_recipients after) ≡ alter by_address (address_of y.address) (λ m. mark_of y) (map recipient_of (used_recipients row)) = recipients-replaced row after at y placed cells in
          (λ i. (ask_of (asked i), (a ∙ ap (λ (z : Address). alter by_address z (λ m. mark_of y) (map recipient_of (used_recipients row))) there) i)) ∙ rw (here, e)

      pub row_kept : row_fine after ≡ true
      row_kept =
          let g = fine-row row fine in
          let x-fine : recipient_fine row.asked x ≡ true = rw (get_or-take row.count row.recipients at d used) at (all-at (recipient_fine row.asked) (used_recipients row) at d g.recipients (in-used row.count row.recipients (s.inside refl))) in
          replaced-row-fine row after at y fine (settled-fine row.asked code x y x-fine same e) placed key asked count cells
        where
          in-used : (n : ℕ) (l : List Recipient) → at < length (map (λ z. address_of z.address) (take n l)) → at < length (take n l)
          in-used n l h = omega (arith, length-map (λ (z : Recipient). address_of z.address) (take n l))

-- ---- what a receipt makes of a row

module _ (w : Address) (r : Cells) where
  patched-written : (x : Option Mark) → theory.patched rules r (marked w r (written x)) ≡ (plain (written x).0, tt, some (r.0, mark w (written x).1 r.1))
  patched-written none = refl
  patched-written (some n) = refl

  patched-reply : (c : ℕ) (o : Option Mark) → theory.patched rules r (marked w r (reply r.0 c o)) ≡ (plain (reply r.0 c o).0, tt, some (r.0, mark w (reply r.0 c o).1 r.1))
  patched-reply c none = refl
  patched-reply c (some m) = patched-written (settle r.0 c m)

-- ---- the table

module _ (t : Table) (well : well_formed t ≡ true) (k : DeclaredKey) (from : Address) (code : ℕ) where
  pub receipt-none : (at : ℕ) → Stopped by_key (key_of k) (keys_of t) at false → OnValues (inr (receipt (key_of k) (from, code))) t (plain 26) t
  receipt-none at s = values-refused (receipt (key_of k) (from, code)) t well 26 (lit< tt) (receipt-missing (key_of k) (see t) from code (row-free t (key_of k) at well s))

  module _ (at : ℕ) (d : Row) (s : Stopped by_key (key_of k) (keys_of t) at true) where
    abbrev row : Row
    row = get_or t.rows at d

    -- the call's outcome is the row's
    outcome : on_table (inr (receipt (key_of k) (from, code))) (see t) ≡ (plain (replied from code (row_of row).1).0, put by_key (key_of k) (some ((row_of row).1.0, mark from (replied from code (row_of row).1).1 (row_of row).1.1)) (see t))
    unfolding on_table theory.on_table step
    outcome =
        let r : Cells = (row_of row).1 in
        let e = patched-reply from r code (find by_address from r.1) in
        rw (row-held t (key_of k) at d s) (λ i. ((e i).0, put by_key (key_of k) (e i).2 (see t)))

    pub receipt-refused : (m : ℕ) → 0 < m → m ≡ (replied from code (row_of row).1).0 → OnValues (inr (receipt (key_of k) (from, code))) t (plain m) t
    receipt-refused m l e = values-refused (receipt (key_of k) (from, code)) t well m l (rw outcome (ap plain e))

    pub receipt-settled : (after : Row) (t' : Table) → 0 ≡ (replied from code (row_of row).1).0 → after.key ≡ row.key → (row_of after).1 ≡ ((row_of row).1.0, mark from (replied from code (row_of row).1).1 (row_of row).1.1) → row_fine after ≡ true →
        t'.count ≡ t.count → used_rows t' ≡ set (used_rows t) at after → OnValues (inr (receipt (key_of k) (from, code))) t fine t'
    receipt-settled after t' e key cells good m u =
        let used : at < t.count = used-rows t.count t.rows (s.inside refl) in
        let j : key_of row.key ≡ key_of k = ap (λ (z : Row). key_of z.key) (sym (get_or-take t.count t.rows at d used)) ∙ found by-key (λ (z : Row). key_of z.key) (key_of k) (used_rows t) at d s in
        let i : key_of after.key ≡ key_of k = ap key_of key ∙ j in
        let p : Stopped by_key (key_of after.key) (keys_of t) at true = rw i s in
        let v = see-replaced t t' at after p u ∙ λ z. put by_key (i z) (some (cells z)) (see t) in
        values-done (receipt (key_of k) (from, code)) t t' well (rw outcome (ap plain e)) (rw outcome v) (replaced-well-formed t t' at well after good p m u)
      where
        used-rows : (m : ℕ) (l : List Row) → at < length (map (λ z. key_of z.key) (take m l)) → at < m
        used-rows m l h = omega (arith, length-map (λ (z : Row). key_of z.key) (take m l), length-take m l)

-- what stands at a place, stored there
stored-again : {A : Type 0} (l : List A) (i : ℕ) (d : A) → i < length l → set l i (get_or l i d) ≡ l
stored-again [] i d h = absurd (omega arith)
stored-again (x ∷ l) zero d h = refl
stored-again (x ∷ l) (suc i) d h = ap (λ m. x ∷ m) (stored-again l i d (omega arith))

-- ---- the whole call, from what the code has found: the place of the key, and what the row says

module _ (t : Table) (cells : length t.rows ≡ 32) (k : DeclaredKey) (f : Verdict) (p : Position) (placed : well_formed t ≡ true → Placed t k p) (from : Address) (code : ℕ) (told : Verdict) (e : told ≡ first_of (pick (well_formed t) f (plain 30)) (plain (pick (not (is_held p)) 26 0))) where
  abbrev asked : Operation
  asked = receipt (key_of k) (from, code)

  pub receipt-there : told.number ≡ 0 → (well_formed t ≡ true) × (f.number ≡ 0) × (index_of p < t.count) × (t.count ≤ 32) × Stopped by_key (key_of k) (keys_of t) (index_of p) true
  receipt-there z =
      let a = first_fine _ _ (ap (λ (v : Verdict). v.number) (sym e) ∙ z) in
      let q = passed (well_formed t) f a.0 in
      let h = held-there (is_held p) 26 (lit< tt) a.1 in
      let g = placed q.0 in
      (q.0, q.1, g.1 h, (fine-table t q.0).fits, subst (Stopped by_key (key_of k) (keys_of t) (index_of p)) h g.2)

  -- no row has the key, or the call was refused before
  pub receipt-early : eqb told.number 0 ≡ false → OnValues (named f asked) t told t
  unfolding first_of
  receipt-early n = acts asked t f told t (λ l. e ∙ first_some _ _ l) (λ q. refl) (λ w z. by w z (is_held p) refl)
    where
      by : well_formed t ≡ true → f.number ≡ 0 → (h : Bool) → is_held p ≡ h → OnValues (inr asked) t told t
      by w z true h = let m : told ≡ fine = e ∙ rw (w, z, h) in absurd (false≢true (sym n ∙ eq-eqb told.number 0 (ap (λ (v : Verdict). v.number) m)))
      by w z false h = let m : told ≡ plain 26 = e ∙ rw (w, z, h) in values-kept (inr asked) t t (plain 26) told m refl (receipt-none t w k from code (index_of p) (subst (Stopped by_key (key_of k) (keys_of t) (index_of p)) h (placed w).2))

  -- the row settles it or refuses it; a row that refuses is stored again
  module _ (z : told.number ≡ 0) (d : Row) (after : Row) where
    abbrev old : Row
    old = get_or t.rows (index_of p) d

    abbrev stored : Table
    stored = record { rows = set t.rows (index_of p) after; count = t.count }

    pub receipt-acts : (x : ℕ) → x ≡ (replied from code (row_of old).1).0 → after.key ≡ old.key → (row_of after).1 ≡ ((row_of old).1.0, mark from (replied from code (row_of old).1).1 (row_of old).1.1) → row_fine after ≡ true → ((x ≡ 0 → ⊥) → after ≡ old) → OnValues (named f asked) t (plain x) stored
    receipt-acts x r key rows good same =
        let q = receipt-there z in
        subst (λ (c : Call). OnValues c t (plain x) stored) (named-fine f asked q.1) (by x r same)
      where
        by : (x : ℕ) → x ≡ (replied from code (row_of old).1).0 → ((x ≡ 0 → ⊥) → after ≡ old) → OnValues (inr asked) t (plain x) stored
        by zero r same =
            let q = receipt-there z in
            receipt-settled t q.0 k from code (index_of p) d q.4 after stored r key rows good refl (take-set-lt t.count t.rows (index_of p) after q.2)
        by (suc n) r same =
            let q = receipt-there z in
            let u : after ≡ old = same (λ i. omega (arith, i)) in
            let v : stored ≡ t = ap (λ (y : Row). record { rows = set t.rows (index_of p) y; count = t.count }) u ∙ ap (λ (l : List Row). record { rows = l; count = t.count }) (stored-again t.rows (index_of p) d (omega (arith, cells, q.2, q.3))) in
            values-kept (inr asked) t stored (plain (suc n)) (plain (suc n)) refl v (receipt-refused t q.0 k from code (index_of p) d q.4 (suc n) (omega arith) r)
