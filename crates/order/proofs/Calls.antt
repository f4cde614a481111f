-- The calls on the rows are those of the theory of the calls: whatever calls come, the table answers as the plain sheet does and holds its rows in key order; calls that have nothing
-- to do with each other may change places; the rows stay well formed. Assumes nothing.
use mathlib.Core.Path.{◌≡◌, refl, sym, ap, ◌∙◌}
use mathlib.Core.Logic.{◌≢◌, inl, inr}
use mathlib.Core.Bool.{Bool, true, false, cond}
use mathlib.Core.List.{List, [], ◌∷◌, map}
use mathlib.Core.Option
use mathlib.Core.Option.{Option, none, some}
use Prim.Native.Nat.{ℕ, suc, ◌+◌, ◌≤◌}
use native.Mathlib.Omega.{arith}
use lib.ListN.{length, length-map}
use lib.Dec.{T, leb}
use borrow.Author.Tests.{lt-leb, leb-false}
use Rattle.codec.specs.Verdict.{Verdict, fine}
use Rattle.codec.specs.Verdict as verdict
use Rattle.calls.specs.Keyed.{find, sort, InOrder}
use Rattle.calls.specs.Machine.{step}
use Rattle.calls.specs.Operations as theory
use Rattle.calls.specs.Operations.{post, receipt, release, key, line_free}
use Rattle.calls.specs.Runs.{final, answers, states, Changed}
use Rattle.calls.proofs.Orders.{cases}
use Rattle.calls.proofs.Keyed.{sorted, held, same_or_not, find-alter, find-alter-other, alter-comm, length-alter, alter-in-order, length-put, put_some, sort-in-order, length-sort, find-sort}
use Rattle.calls.proofs.Machine.{all-step}
use Rattle.calls.proofs.Operations as laws
use Rattle.calls.proofs.Lines.{lines-steady}
use Rattle.calls.proofs.Runs.{Swaps, change, keeps, same-answers, same-final, same-views}
use Rattle.order.specs.Values.{Key, Address, by_key, by_address}
use Rattle.order.specs.Requests.{Ask, Mark, blank, any_of, settle}
use Rattle.order.specs.Calls.{Operation, Call, Row, Rows, Receipt, make, written, reply, replied, mark, marked, rules, on_table, OtherAnswerer, Apart, lines_for}
use Rattle.order.specs.Sheet.{sheet}
use Rattle.order.specs.WellFormed.{FineRow, FineCell, WellFormed, LegalAll, LegalOperation, LegalCall}
use Rattle.order.proofs.Orders.{by-key, by-address}
use Rattle.order.proofs.Requests.{blank-well, settle-well}

pub lawful : laws.Lawful rules
lawful = record { order = by-key; comm = λ x y t. refl; nothing = λ t. refl }

-- the theory's state: the rows, and nothing counted
abbrev State : Type 0
State = Rows × Unit {0}

abbrev whole : Call → State → Verdict × State
whole c = theory.on_table rules c

abbrev plain : Call → State → Verdict × State
plain c = theory.sheet rules c

-- ---- a refusal leaves the table

pub refused-stays : (c : Call) (s : Rows) → InOrder by_key s → (on_table c s).0 ≢ fine → (on_table c s).1 ≡ s
unfolding on_table
refused-stays c s u h = ap (λ (x : State). x.0) (laws.refused-stays rules lawful c (s, tt) u h)

table-in-order : (c : Call) (s : Rows) → InOrder by_key s → InOrder by_key (on_table c s).1
unfolding on_table
table-in-order c s u = laws.table-in-order rules lawful c (s, tt) u

-- ---- every list of calls, refused ones included, from an empty table

abbrev Same : Rows → State → Type 0
Same s x = ◌≡◌ {A = State} (s, tt) x

table-whole : (c : Call) (s : Rows) (x : State) → Same s x → ((on_table c s).0 ≡ (whole c x).0) × Same (on_table c s).1 (whole c x).1
unfolding on_table
table-whole c s x e = (ap (λ (y : State). (whole c y).0) e, ap (λ (y : State). (whole c y).1) e)

sheet-plain : (c : Call) (s : Rows) (x : State) → Same s x → ((sheet c s).0 ≡ (plain c x).0) × Same (sheet c s).1 (plain c x).1
unfolding sheet
sheet-plain c s x e = (ap (λ (y : State). (plain c y).0) e, ap (λ (y : State). (plain c y).1) e)

-- C: the calls with their arguments, and how each is read
module _ {C : Type 0} (read : C → Call) where
  pub history-answers : (cs : List C) → answers (λ c. on_table (read c)) [] cs ≡ answers (λ c. sheet (read c)) [] cs
  history-answers cs =
      same-answers (λ c. on_table (read c)) (λ c. whole (read c)) Same (λ c. table-whole (read c)) cs [] ([], tt) refl
      ∙ laws.history-answers rules lawful read cs
      ∙ sym (same-answers (λ c. sheet (read c)) (λ c. plain (read c)) Same (λ c. sheet-plain (read c)) cs [] ([], tt) refl)

  -- whatever is told of the table before the first call and behind each is what is told of the sheet's rows in key order
  pub history-tables : {X : Type 0} (f : Rows → X) (cs : List C) →
      map f (states (λ c. on_table (read c)) [] cs) ≡ map (λ t. f (sort by_key t)) (states (λ c. sheet (read c)) [] cs)
  history-tables f cs =
      same-views (λ c. on_table (read c)) (λ c. whole (read c)) Same (λ c. table-whole (read c)) f (λ (x : State). f x.0) (λ s x e. ap (λ (y : State). f y.0) e) cs [] ([], tt) refl
      ∙ laws.history-tables rules lawful read (λ (x : State). f x.0) cs
      ∙ sym (same-views (λ c. sheet (read c)) (λ c. plain (read c)) Same (λ c. sheet-plain (read c)) (λ t. f (sort by_key t)) (λ (x : State). f (sort by_key x.0)) (λ s x e. ap (λ (y : State). f (sort by_key y.0)) e) cs [] ([], tt) refl)

  -- table and sheet hold equally many rows
  pub history-count : (cs : List C) → length (final (λ c. on_table (read c)) [] cs) ≡ length (final (λ c. sheet (read c)) [] cs)
  history-count cs =
      ap (λ (x : State). length x.0) (same-final (λ c. on_table (read c)) (λ c. whole (read c)) Same (λ c. table-whole (read c)) cs [] ([], tt) refl)
      ∙ (laws.history-end rules lawful read cs).count
      ∙ sym (ap (λ (x : State). length x.0) (same-final (λ c. sheet (read c)) (λ c. plain (read c)) Same (λ c. sheet-plain (read c)) cs [] ([], tt) refl))

-- ---- receipts from different answerers

find-mark : (v w : Address) (m : Option Mark) (l : List (Address × Mark)) → v ≢ w → find by_address v (mark w m l) ≡ find by_address v l
find-mark v w none l n = refl
find-mark v w (some m) l n = find-alter-other (sorted by-address) v w _ l n

mark-comm : (v w : Address) (m o : Option Mark) (l : List (Address × Mark)) → v ≢ w → mark v m (mark w o l) ≡ mark w o (mark v m l)
mark-comm v w none o l n = refl
mark-comm v w (some m) none l n = refl
mark-comm v w (some m) (some o) l n = alter-comm (sorted by-address) v w _ _ l n

-- the row behind a receipt
left-marked : (w : Address) (r : Row) (x : ℕ × Option Mark) → theory.left rules r (marked w r x) ≡ (r.0, mark w x.1 r.1)
left-marked w r (n, none) = refl
left-marked w r (n, some m) = refl

left_is : (w : Address) (c : ℕ) (r : Row) → theory.left_by rules (w, c) r ≡ (r.0, mark w (replied w c r).1 r.1)
left_is w c r = left-marked w r (replied w c r)

like-marked : (v : Address) (r u : Row) (x : ℕ × Option Mark) → theory.Like rules (marked v r x) (marked v u x)
like-marked v r u (n, none) = refl
like-marked v r u (n, some m) = refl

module _ (v w : Address) (c d : ℕ) (n : v ≢ w) where
  replied-same : (r : Row) → replied v c (theory.left_by rules (w, d) r) ≡ replied v c r
  replied-same r = ap (replied v c) (left_is w d r) ∙ ap (reply r.0 c) (find-mark v w (replied w d r).1 r.1 n)

  first-like : (r : Row) → theory.Like rules (rules.patch (v, c) (theory.left_by rules (w, d) r)) (rules.patch (v, c) r)
  first-like r = rw (replied-same r) (like-marked v (theory.left_by rules (w, d) r) r (replied v c r))

  twice : (r : Row) → theory.left_by rules (v, c) (theory.left_by rules (w, d) r) ≡ (r.0, mark v (replied v c r).1 (mark w (replied w d r).1 r.1))
  twice r =
      left_is v c (theory.left_by rules (w, d) r)
      ∙ (λ i. ((left_is w d r i).0, mark v (replied-same r i).1 (left_is w d r i).1))

pub independent : (p q : Receipt) → OtherAnswerer p q → theory.Independent rules p q
independent p q n =
    let m : q.0 ≢ p.0 = λ e. n (sym e) in
    record {
      first = first-like p.0 q.0 p.1 q.1 n;
      second = first-like q.0 p.0 q.1 p.1 m;
      both = λ r.
          twice p.0 q.0 p.1 q.1 n r
          ∙ ap (λ (l : List (Address × Mark)). (r.0, l)) (mark-comm p.0 q.0 (replied p.0 p.1 r).1 (replied q.0 q.1 r).1 r.1 n)
          ∙ sym (twice q.0 p.0 q.1 p.1 m r);
    }

-- ---- the change of places

-- a free line lets a row in
pub line-free : (r : Row) (n : ℕ) → suc n ≤ 32 → rules.gate r n tt ≡ none
line-free r n h = rw (lt-leb 32 n (omega (arith, h)))

swaps : (a b : Call) (s : Rows) → InOrder by_key s → Apart a b → lines_for a + lines_for b + length s ≤ 32 → Swaps on_table a b s
unfolding on_table
swaps a b s u h l =
    let k =
    laws.swaps rules lawful OtherAnswerer (λ p q n. laws.independent-settles rules p q (independent p q n)) a b (s, tt) u h
    (lines-steady rules lawful 32 line-free a b (s, tt) u l)
    (lines-steady rules lawful 32 line-free b a (s, tt) u (omega (arith, l))) in
    record { first = k.first; second = k.second; ends = ap (λ (z : State). z.0) k.ends }

module _ {C : Type 0} (read : C → Call) where
  -- two neighbours with nothing to do with each other, and a free line for each posting of the two
  pub change-of-places : (pre : List C) (a b : C) (rest : List C) → Apart (read a) (read b) →
      lines_for (read a) + lines_for (read b) + length (final (λ c. on_table (read c)) [] pre) ≤ 32 → Changed (λ c. on_table (read c)) [] pre a b rest
  unfolding InOrder
  change-of-places pre a b rest h l =
      let u = keeps (λ c. on_table (read c)) (InOrder by_key) (λ c. table-in-order (read c)) [] pre tt in
      let k = swaps (read a) (read b) _ u h l in
      change (λ c. on_table (read c)) [] pre a b rest (record { first = k.first; second = k.second; ends = k.ends })

-- ---- the table's rows stay well formed

entered-fits : (r : Row) (n : ℕ) (o : Option Row) (b : Bool) → leb 32 n ≡ b → n ≤ 32 → n + held (theory.entered rules r o (cond b (some (verdict.plain 23)) none)).2 ≤ 32 + held o
entered-fits r n (some o) b e l = omega (arith, l)
entered-fits r n none true e l = omega (arith, l)
entered-fits r n none false e l = omega (arith, leb-false 32 n e)

marked-fits : (w : Address) (r : Row) (x : ℕ × Option Mark) → held (theory.patched rules r (marked w r x)).2 ≡ 1
marked-fits w r (n, none) = refl
marked-fits w r (n, some m) = refl

act-fits : (d : Operation) (n : ℕ) (o : Option Row) → n ≤ 32 → n + held (theory.act rules d n tt o).2 ≤ 32 + held o
act-fits (post k r) n o h = entered-fits r n o (leb 32 n) refl h
act-fits (receipt k p) n none h = omega (arith, h)
act-fits (receipt k p) n (some r) h = omega (arith, h, marked-fits p.0 r (replied p.0 p.1 r))
act-fits (release k) n none h = omega (arith, h)
act-fits (release k) n (some r) h = omega (arith, h)

-- never more rows than there are lines
pub step_fits : (c : Call) (s : Rows) → InOrder by_key s → length s ≤ 32 → length (on_table c s).1 ≤ 32
unfolding on_table theory.on_table step
step_fits (inl n) s u h = h
step_fits (inr d) s u h =
    let o : Option Row = find by_key (key d) s in
    omega (arith, length-put (sorted by-key) (key d) (theory.act rules d (length s) tt o).2 s u, act-fits d (length s) o h)

module _ (LegalKey : Key → Type 0) (LegalAddress : Address → Type 0) where
  abbrev Fine : Key → Row → Type 0
  Fine = FineRow LegalKey LegalAddress

  abbrev FineAt : Key → Option Row → Type 0
  FineAt = FineCell LegalKey LegalAddress

  each-blank : (rs : List Address) → LegalAll LegalKey LegalAddress rs → (w : Address) (m : Mark) →
      find by_address w (map (λ r. (r, blank)) rs) ≡ some m → LegalAddress w × (blank ≡ m)
  unfolding find
  each-blank [] h w m e = let z : ◌≡◌ {A = ℕ} 0 1 = cc in absurd (omega arith)
  each-blank (r ∷ rs) h w m e =
      cases (by_address w r)
      (λ c. each-blank rs h.1 w m (rw c at e))
      (λ c. let b : some blank ≡ some m = rw c at e in (rw (by-address.eq→ w r c) h.0, cc))
      (λ c. each-blank rs h.1 w m (rw c at e))

  -- a new row of a legal key, something asked and 1 to 16 legal recipients
  pub fine-make : (k : Key) (a : Ask) (rs : List Address) → LegalKey k → T (any_of a) → 1 ≤ length rs → length rs ≤ 16 → LegalAll LegalKey LegalAddress rs → Fine k (make a rs)
  unfolding make sort
  fine-make k a [] legal asked least most each = absurd (omega (arith, least))
  fine-make k a (r ∷ rs) legal asked least most each =
      let l : List (Address × Mark) = map (λ r. (r, blank)) (r ∷ rs) in
      record {
        legal = legal;
        asked = asked;
        order = sort-in-order by-address l;
        least = put_some (sorted by-address) r blank _;
        most = omega (arith, length-sort by-address l, length-map {B = Address × Mark} (r ∷ rs) (λ r. (r, blank)), most);
        each = λ w m e. let x = each-blank (r ∷ rs) each w m (sym (find-sort by-address w l) ∙ e) in (x.0, rw (← x.1) (blank-well a));
      }

  module _ (k : Key) (r : Row) (w : Address) (c : ℕ) (h : Fine k r) where
    fine-written : (m : Mark) → find by_address w r.1 ≡ some m → (x : Option Mark) → settle r.0 c m ≡ x → FineAt k (theory.patched rules r (marked w r (written x))).2
    fine-written m f none e = h
    fine-written m f (some n) e =
        let P = sorted by-address in
        record {
          legal = h.legal;
          asked = h.asked;
          order = alter-in-order P w (λ o. n) r.1 h.order;
          least = rw (length-alter P w (λ o. n) r.1) h.least;
          most = rw (length-alter P w (λ o. n) r.1) h.most;
          each = λ v p g.
              same_or_not P v w
              (λ q.
              let s : some n ≡ some p = sym (find-alter P w (λ o. n) r.1 ∙ ap (Option.map (λ o. n)) f) ∙ (rw q at g) in
              let t : n ≡ p = cc in
              rw (q, ← t) ((h.each w m f).0, settle-well r.0 c m n (h.each w m f).1 e))
              (λ d. h.each v p (sym (find-alter-other P v w (λ o. n) r.1 d) ∙ g));
        }

    fine-reply : (x : Option Mark) → find by_address w r.1 ≡ x → FineAt k (theory.patched rules r (marked w r (reply r.0 c x))).2
    fine-reply none f = h
    fine-reply (some m) f = fine-written m f _ refl

  fine-entered : (k : Key) (r : Row) (o : Option Row) (g : Option Verdict) → Fine k r → FineAt k o → FineAt k (theory.entered rules r o g).2
  fine-entered k r (some o) g p h = h
  fine-entered k r none (some n) p h = h
  fine-entered k r none none p h = p

  fine-act : (d : Operation) → LegalOperation LegalKey LegalAddress d → (n : ℕ) (t : Unit {0}) (o : Option Row) → FineAt (key d) o → FineAt (key d) (theory.act rules d n t o).2
  fine-act (post k r) l n t o h = fine-entered k r o (line_free 32 (verdict.plain 23) n) l h
  fine-act (receipt k p) l n t none h = tt
  fine-act (receipt k p) l n t (some r) h = fine-reply k r p.0 p.1 h _ refl
  fine-act (release k) l n t none h = tt
  fine-act (release k) l n t (some r) h = tt

  rows_step : (c : Call) → LegalCall LegalKey LegalAddress c → (s : Rows) → InOrder by_key s →
      ((k : Key) → FineAt k (find by_key k s)) → (k : Key) → FineAt k (find by_key k (on_table c s).1)
  unfolding on_table theory.on_table step
  rows_step (inl n) l s u h = h
  rows_step (inr d) l s u h = all-step key (theory.act rules) rules.add (sorted by-key) FineAt d (s, tt) (fine-act d l) u h

  pub table_step : (c : Call) → LegalCall LegalKey LegalAddress c → (s : Rows) → WellFormed LegalKey LegalAddress s → WellFormed LegalKey LegalAddress (on_table c s).1
  table_step c l s h =
      record {
        order = table-in-order c s h.order;
        rows = rows_step c l s h.order h.rows;
        fits = step_fits c s h.order h.fits;
      }

  pub table_empty : WellFormed LegalKey LegalAddress []
  unfolding find InOrder
  table_empty = record { order = tt; rows = λ k. tt; fits = omega arith }
