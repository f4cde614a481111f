-- The history: whatever calls come, the table answers as the plain sheet does and holds its rows in key order; calls that have nothing to do with each other
-- may change places. Assumes nothing but the laws of the rules (`Lawful`).
use mathlib.Core.Path.{◌≡◌, refl, sym, ap, ◌∙◌}
use mathlib.Core.Logic.{◌≢◌, ◌⊎◌, inl, inr}
use mathlib.Core.List.{List, [], map}
use mathlib.Core.Option.{Option, none, some}
use Prim.Native.Nat.{ℕ}
use lib.ListN.{length}
use Rattle.calls.specs.Keyed.{find, put, sort, InOrder, arrival}
use Rattle.calls.specs.Runs.{final, answers, states, Changed}
use Rattle.calls.specs.Machine.{step}
use Rattle.calls.specs.Operations.{Operation, post, receipt, release, key, Rules, State, Call, entered, patched, received, released, act, on_table, posting, writing, receiving, releasing, sheet, Apart, refused_first, refused_second, messages, answerers, Steady, Like, left, left_by, Independent}
use Rattle.calls.proofs.Orders.{Order}
use Rattle.calls.proofs.Keyed.{sorted, arrived, put-find, find-arrival, put-takes-out, put-adds, put-changes}
use Rattle.calls.proofs.Runs.{Swaps, change, same-answers, same-final, same-views}
use Rattle.calls.proofs.Machine.{pair, step-in-order, stays, Alike, alike-step, alike-sort, empty-alike, apart-swaps, cell-swaps}

pub record Lawful {K W P A L : Type 0} (R : Rules K W P A L) : Type 0 where
  pub order : Order R.cmp
  pub comm : (x y t : L) → R.add x (R.add y t) ≡ R.add y (R.add x t)
  pub nothing : (t : L) → R.add R.zero t ≡ t

-- two receipts for one row: each answers and counts the same before the other and after it, and the row ends the same
pub record Settles {K W P A L : Type 0} (R : Rules K W P A L) (p q : P) (o : Option W) : Type 0 where
  pub first_answer : (received R p (received R q o).2).0 ≡ (received R p o).0
  pub second_answer : (received R q (received R p o).2).0 ≡ (received R q o).0
  pub first_counts : (received R p (received R q o).2).1 ≡ (received R p o).1
  pub second_counts : (received R q (received R p o).2).1 ≡ (received R q o).1
  pub cell : (received R p (received R q o).2).2 ≡ (received R q (received R p o).2).2

module _ {K W P A L : Type 0} (R : Rules K W P A L) where
  patched-answer : (r u : W) (x y : A ⊎ (L × W)) → Like R x y → (patched R r x).0 ≡ (patched R u y).0
  patched-answer r u (inl a) (inl b) e = e
  patched-answer r u (inl a) (inr y) e = absurd e
  patched-answer r u (inr x) (inl b) e = absurd e
  patched-answer r u (inr x) (inr y) e = refl

  patched-counts : (r u : W) (x y : A ⊎ (L × W)) → Like R x y → (patched R r x).1 ≡ (patched R u y).1
  patched-counts r u (inl a) (inl b) e = refl
  patched-counts r u (inl a) (inr y) e = absurd e
  patched-counts r u (inr x) (inl b) e = absurd e
  patched-counts r u (inr x) (inr y) e = e

  patched-cell : (r : W) (x : A ⊎ (L × W)) → (patched R r x).2 ≡ some (left R r x)
  patched-cell r (inl a) = refl
  patched-cell r (inr x) = refl

  pub independent-settles : (p q : P) → Independent R p q → (o : Option W) → Settles R p q o
  independent-settles p q h none = record { first_answer = refl; second_answer = refl; first_counts = refl; second_counts = refl; cell = refl }
  independent-settles p q h (some r) =
      let cp = patched-cell r (R.patch p r) in
      let cq = patched-cell r (R.patch q r) in
      record {
        first_answer = ap (λ o. (received R p o).0) cq ∙ patched-answer (left_by R q r) r (R.patch p (left_by R q r)) (R.patch p r) (h.first r);
        second_answer = ap (λ o. (received R q o).0) cp ∙ patched-answer (left_by R p r) r (R.patch q (left_by R p r)) (R.patch q r) (h.second r);
        first_counts = ap (λ o. (received R p o).1) cq ∙ patched-counts (left_by R q r) r (R.patch p (left_by R q r)) (R.patch p r) (h.first r);
        second_counts = ap (λ o. (received R q o).1) cp ∙ patched-counts (left_by R p r) r (R.patch q (left_by R p r)) (R.patch q r) (h.second r);
        cell = ap (λ o. (received R p o).2) cq
            ∙ patched-cell (left_by R q r) (R.patch p (left_by R q r))
            ∙ ap some (h.both r)
            ∙ sym (patched-cell (left_by R p r) (R.patch q (left_by R p r)))
            ∙ sym (ap (λ o. (received R q o).2) cp);
      }

module _ {K W P A L : Type 0} (R : Rules K W P A L) (Z : Lawful R) where
  -- ---- a refusal leaves the state

  record Leaves (o : Option W) (x : A × L × Option W) : Type 0 where
    cell : x.2 ≡ o
    counts : x.1 ≡ R.zero

  entered-leaves : (r : W) (o : Option W) (g : Option A) → (entered R r o g).0 ≢ R.done → Leaves o (entered R r o g)
  entered-leaves r (some o) g h = record { cell = refl; counts = refl }
  entered-leaves r none (some a) h = record { cell = refl; counts = refl }
  entered-leaves r none none h = absurd (h refl)

  patched-leaves : (r : W) (x : A ⊎ (L × W)) → (patched R r x).0 ≢ R.done → Leaves (some r) (patched R r x)
  patched-leaves r (inl a) h = record { cell = refl; counts = refl }
  patched-leaves r (inr n) h = absurd (h refl)

  act-leaves : (d : Operation K W P) (n : ℕ) (t : L) (o : Option W) → (act R d n t o).0 ≢ R.done → Leaves o (act R d n t o)
  act-leaves (post k r) n t o h = entered-leaves r o (R.gate r n t) h
  act-leaves (receipt k p) n t none h = record { cell = refl; counts = refl }
  act-leaves (receipt k p) n t (some r) h = patched-leaves r (R.patch p r) h
  act-leaves (release k) n t none h = record { cell = refl; counts = refl }
  act-leaves (release k) n t (some r) h = absurd (h refl)

  pub refused-stays : (c : Call R) (s : State R) → InOrder R.cmp s.0 → (on_table R c s).0 ≢ R.done → (on_table R c s).1 ≡ s
  unfolding on_table step
  refused-stays (inl a) s u h = refl
  refused-stays (inr d) s u h =
      let l = act-leaves d _ _ _ h in
      stays key (act R) R.add (sorted Z.order) d s u l.cell (ap (λ x. R.add x s.1) l.counts ∙ Z.nothing s.1)

  pub table-in-order : (c : Call R) (s : State R) → InOrder R.cmp s.0 → InOrder R.cmp (on_table R c s).1.0
  unfolding on_table
  table-in-order c s u = step-in-order key (act R) R.add (sorted Z.order) c s u

  -- ---- the sheet is the machine of entries in the order of arrival

  abbrev wrote : K → State R → A × L × Option W → A × State R
  wrote k s x = (x.0, (put (arrival R.cmp) k x.2 s.0, R.add x.1 s.1))

  module _ (k : K) (s : State R) (u : InOrder (arrival R.cmp) s.0) where
    same-cell : (a : A) (o : Option W) → find R.cmp k s.0 ≡ o → ◌≡◌ {A = A × State R} (a, s) (wrote k s (a, R.zero, o))
    same-cell a o e =
        pair refl (pair (sym (rw (find-arrival Z.order k s.0 ∙ e) at (put-find (arrived Z.order) k s.0 u))) (sym (Z.nothing s.1)))

    posting-is : (r : W) (o : Option W) (g : Option A) → find R.cmp k s.0 ≡ o → posting R k r s o g ≡ wrote k s (entered R r o g)
    unfolding posting
    posting-is r (some o) g e = same-cell R.held (some o) e
    posting-is r none (some a) e = same-cell a none e
    posting-is r none none e = pair refl (pair (sym (put-adds Z.order k r s.0 e)) refl)

    writing-is : (r : W) (x : A ⊎ (L × W)) → find R.cmp k s.0 ≡ some r → writing R k s x ≡ wrote k s (patched R r x)
    unfolding writing
    writing-is r (inl a) e = same-cell a (some r) e
    writing-is r (inr n) e = pair refl (pair (sym (put-changes Z.order k r n.1 s.0 e)) refl)

    receiving-is : (p : P) (o : Option W) → find R.cmp k s.0 ≡ o → receiving R k p s o ≡ wrote k s (received R p o)
    unfolding receiving
    receiving-is p none e = same-cell R.missing none e
    receiving-is p (some r) e = writing-is r (R.patch p r) e

    releasing-is : (o : Option W) → find R.cmp k s.0 ≡ o → releasing R k s o ≡ wrote k s (released R o)
    unfolding releasing
    releasing-is none e = same-cell R.missing none e
    releasing-is (some r) e = pair refl (pair (sym (put-takes-out Z.order k s.0 u)) refl)

  pub sheet-is : (c : Call R) (s : State R) → InOrder (arrival R.cmp) s.0 → sheet R c s ≡ step key (act R) R.add (arrival R.cmp) c s
  unfolding sheet step
  sheet-is (inl a) s u = refl
  sheet-is (inr (post k r)) s u = rw (find-arrival Z.order k s.0) (posting-is k s u r _ _ refl)
  sheet-is (inr (receipt k p)) s u = rw (find-arrival Z.order k s.0) (receiving-is k s u p _ refl)
  sheet-is (inr (release k)) s u = rw (find-arrival Z.order k s.0) (releasing-is k s u _ refl)

  -- ---- every list of calls, refused ones included, from an empty table

  abbrev pub Both : State R → State R → Type 0
  Both = Alike key (act R) R.add R.cmp (arrival R.cmp)

  abbrev pub empty : State R
  empty = ([], R.zero)

  pub both-empty : Both empty empty
  both-empty = empty-alike key (act R) R.add Z.order R.zero

  pub together : (c : Call R) (s t : State R) → Both s t → ((on_table R c s).0 ≡ (sheet R c t).0) × Both (on_table R c s).1 (sheet R c t).1
  unfolding on_table
  together c s t r = rw (sheet-is c t r.right) (alike-step key (act R) R.add (sorted Z.order) (arrived Z.order) c s t r)

  -- the sheet's rows in key order, and its counts
  abbrev pub ordered : State R → State R
  ordered t = (sort R.cmp t.0, t.1)

  pub both_ordered : (s t : State R) → Both s t → s ≡ ordered t
  both_ordered s t r = alike-sort key (act R) R.add Z.order s t r

  -- C: the calls with their arguments, and how each is read
  module _ {C : Type 0} (read : C → Call R) where
    pub history-answers : (cs : List C) → answers (λ c. on_table R (read c)) empty cs ≡ answers (λ c. sheet R (read c)) empty cs
    history-answers cs = same-answers _ _ Both (λ c. together (read c)) cs _ _ both-empty

    -- whatever is told of the table before the first call and behind each is what is told of the sheet's rows in key order and its counts
    pub history-tables : {X : Type 0} (f : State R → X) (cs : List C) →
        map f (states (λ c. on_table R (read c)) empty cs) ≡ map (λ t. f (ordered t)) (states (λ c. sheet R (read c)) empty cs)
    history-tables f cs = same-views _ _ Both (λ c. together (read c)) f _ (λ s t r. ap f (both_ordered s t r)) cs _ _ both-empty

    pub history-end : (cs : List C) → Both (final (λ c. on_table R (read c)) empty cs) (final (λ c. sheet R (read c)) empty cs)
    history-end cs = same-final _ _ Both (λ c. together (read c)) cs _ _ both-empty

    pub end-in-order : (cs : List C) → InOrder R.cmp (final (λ c. on_table R (read c)) empty cs).0
    end-in-order cs = (history-end cs).left

  -- ---- the change of places

  quiet : (a : Call R) (d : Operation K W P) (s : State R) → Steady R (inr d) a s → (o : Option W) →
      act R d (length (on_table R a s).1.0) (on_table R a s).1.1 o ≡ act R d (length s.0) s.1 o
  quiet a (post k r) s h o = ap (entered R r o) h
  quiet a (receipt k p) s h o = refl
  quiet a (release k) s h o = refl

  module _ (Free : P → P → Type 0) (free : (p q : P) → Free p q → (o : Option W) → Settles R p q o) where
    pub swaps : (a b : Call R) (s : State R) → InOrder R.cmp s.0 → Apart R Free a b → Steady R a b s → Steady R b a s → Swaps (on_table R) a b s
    unfolding on_table step
    swaps a b s u refused_first f g = record { first = refl; second = refl; ends = refl }
    swaps a b s u refused_second f g = record { first = refl; second = refl; ends = refl }
    swaps a b s u (messages {a = d} {b = e} n) f g =
        let h = apart-swaps key (act R) R.add Z.order Z.comm d e s u n (quiet (inr d) e s g) (quiet (inr e) d s f) in
        record { first = h.first; second = h.second; ends = h.ends }
    swaps a b s u (answerers {k = k} {p = p} {q = q} n) f g =
        let h =
        cell-swaps key (act R) R.add Z.order Z.comm (receipt k p) (receipt k q) (received R p) (received R q) refl (λ m t o. refl) (λ m t o. refl) s u (λ o.
        let c = free p q n o in
        record {
          first_answer = c.first_answer;
          second_answer = c.second_answer;
          first_counts = c.first_counts;
          second_counts = c.second_counts;
          cell = c.cell;
        }) in
        record { first = h.first; second = h.second; ends = h.ends }

    pub change-of-places : {C : Type 0} (read : C → Call R) (pre : List C) (a b : C) (rest : List C) → Apart R Free (read a) (read b) →
        Steady R (read a) (read b) (final (λ c. on_table R (read c)) empty pre) → Steady R (read b) (read a) (final (λ c. on_table R (read c)) empty pre) →
        Changed (λ c. on_table R (read c)) empty pre a b rest
    change-of-places read pre a b rest h f g =
        let k = swaps (read a) (read b) _ (end-in-order read pre) h f g in
        change (λ c. on_table R (read c)) empty pre a b rest (record { first = k.first; second = k.second; ends = k.ends })
