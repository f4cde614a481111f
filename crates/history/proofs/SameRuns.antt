-- Unused cells carry no meaning: calls with the same arguments, lent tables that are the same, answer the same and leave tables that are the same; and so do whole
-- lists of them.
-- The hypotheses: the calls' contracts (`Transition`), and document 01's sameness of arguments and of tables. Assumes nothing else.
use Prim.Native.Nat.{ℕ}
use mathlib.Core.Path.{◌≡◌, refl, ap, ap₂, sym, ◌∙◌}
use mathlib.Core.Bool.{Bool, true, false}
use mathlib.Core.List.{List, ◌∷◌, Forall₂}
use native.Mathlib.Omega.{arith}
use Rattle.codec.specs.Answer.{pick}
use Rattle.codec.specs.Verdict.{Verdict, plain}
use Rattle.order.specs.Calls.{Call, on_table}
use Rattle.calls.specs.Runs.{stop, call}
use Rattle.table.specs.WellFormed.{well_formed}
use Rattle.table_octets.specs.Table.{table_in}
use Rattle.arguments.specs.Arguments.{Arguments, call_of}
use Rattle.transitions.specs.Transition.{Transition}
use Rattle.pending.specs.Calls.{rows_after}
use Rattle.history.specs.History.{Run}
use Rattle.history.specs.SameTable.{SameTable, SameArguments, same_posting, same_receiving, same_releasing}
use Rattle.history.proofs.Runs.{rows_in, stays, whole}
use Rattle.history.proofs.SameTables.{same-well, same_answer, same_rows, see-same}
use Rattle.history.proofs.SameCalls.{same-posting, same-receiving, same-releasing}

-- the same arguments make one call
pub same-call : {a b : Arguments} → SameArguments a b → call_of a ≡ call_of b
same-call (same_posting {g = g} {h = h} {n = n} {count = count} s) = same-posting g h s n count
same-call (same_receiving {g = g} {h = h} {n = n} {count = count} s) = same-receiving g h s n count
same-call (same_releasing {j = j} {k = k} s) = same-releasing j k s

-- one call, whatever the tables
module _ {a b : Arguments} {x y x' y' : List ℕ} {m n : Verdict} (d : Transition (call_of a) x m x') (d' : Transition (call_of b) y n y') (c : SameArguments a b) (s : SameTable (table_in x) (table_in y)) where
  pub call-answer : m ≡ n
  call-answer = d.answer ∙ same_answer (table_in x) (table_in y) s a ∙ ap (λ (f : Call). pick (well_formed (table_in y)) (on_table f (rows_in y)).0 (plain 30)) (same-call c) ∙ sym d'.answer

  pub call_same : SameTable (table_in x') (table_in y')
  call_same = by (well_formed (table_in x)) refl
    where
      by : (t : Bool) → well_formed (table_in x) ≡ t → SameTable (table_in x') (table_in y')
      by true e =
          let g : well_formed (table_in y) ≡ true = sym (same-well (table_in x) (table_in y) s) ∙ e in
          let r : rows_after a (table_in y) ≡ rows_after b (table_in y) = ap (λ (f : Call). pick (well_formed (table_in y)) (on_table f (rows_in y)).1 (rows_in y)) (same-call c) in
          see-same (table_in x') (table_in y') (whole x') (whole y') (d.well ∙ e) (d'.well ∙ g) (d.rows ∙ same_rows (table_in x) (table_in y) s a e ∙ r ∙ sym d'.rows)
      by false e =
          let g : well_formed (table_in y) ≡ false = sym (same-well (table_in x) (table_in y) s) ∙ e in
          let j : m ≡ plain 30 = d.answer ∙ rw e in
          let k : n ≡ plain 30 = d'.answer ∙ rw g in
          let p : x' ≡ x = stays (call_of a) x x' m d (λ z. omega (arith, z, ap (λ (v : Verdict). v.number) j)) in
          let q : y' ≡ y = stays (call_of b) y y' n d' (λ z. omega (arith, z, ap (λ (v : Verdict). v.number) k)) in
          rw (p, q) s

-- lists of calls

pub run-answers : {x y e e' : List ℕ} {cs ds : List Arguments} {xs ys : List Verdict} {ts us : List (List ℕ)} → Run x cs xs ts e → Run y ds ys us e' → Forall₂ SameArguments cs ds → SameTable (table_in x) (table_in y) → xs ≡ ys
run-answers stop stop c s = refl
run-answers {y = y} (stop {t = t}) (call {cs = cs} {xs = xs} {ts = ts} d' r') c s = elim c [ ]
run-answers {y = y} (call {t = t} {e = e} {cs = cs} {xs = xs} {ts = ts} d r) stop c s = elim c [ ]
run-answers (call d r) (call d' r') (Forall₂.cons c cs) s = ap₂ ◌∷◌ (call-answer d d' c s) (run-answers r r' cs (call_same d d' c s))

-- the tables before the first call and after each
pub run-same : {x y e e' : List ℕ} {cs ds : List Arguments} {xs ys : List Verdict} {ts us : List (List ℕ)} → Run x cs xs ts e → Run y ds ys us e' → Forall₂ SameArguments cs ds → SameTable (table_in x) (table_in y)
    → Forall₂ (λ t u. SameTable (table_in t) (table_in u)) ts us
run-same stop stop c s = Forall₂.cons s Forall₂.nil
run-same {y = y} (stop {t = t}) (call {cs = cs} {xs = xs} {ts = ts} d' r') c s = elim c [ ]
run-same {y = y} (call {t = t} {e = e} {cs = cs} {xs = xs} {ts = ts} d r) stop c s = elim c [ ]
run-same (call d r) (call d' r') (Forall₂.cons c cs) s = Forall₂.cons s (run-same r r' cs (call_same d d' c s))
