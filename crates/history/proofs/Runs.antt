-- A run from a well-formed table: its answers and rows are those of the calls on the rows, and every table on the way is well formed. Assumes nothing.
use Prim.Native.Nat.{ℕ, zero, suc}
use mathlib.Core.Path.{◌≡◌, refl, ap, ap₂, ◌∙◌}
use mathlib.Core.Bool.{true}
use mathlib.Core.List.{List, [], ◌∷◌, map}
use lib.ListN.{take, drop}
use Rattle.header.specs.Rules.{all}
use Rattle.order.specs.Calls.{Call, Rows, on_table}
use Rattle.codec.specs.Verdict.{Verdict}
use Rattle.calls.specs.Runs.{final, answers, states, stop, call}
use Rattle.cells.specs.Cells.{part, many}
use Rattle.cells.proofs.Lists.{many-count}
use Rattle.table.specs.Rows.{see, WholeRows, Whole}
use Rattle.table.specs.WellFormed.{increasing, well_formed}
use Rattle.table.specs.declared.Table.{Table}
use Rattle.table_octets.specs.Table.{recipient_in, row_in, table_in}
use Rattle.arguments.specs.Arguments.{Arguments, call_of}
use Rattle.transitions.specs.Octets.{octets_after}
use Rattle.transitions.specs.Transition.{Transition}
use Rattle.history.specs.History.{Run}

-- the rows that octets hold
abbrev pub rows_in : List ℕ → Rows
rows_in t = see (table_in t)

-- every table of a list is well formed
abbrev pub AllWell : List (List ℕ) → Type 0
AllWell [] = Unit {0}
AllWell (t ∷ ts) = (well_formed (table_in t) ≡ true) × AllWell ts

abbrev pub on_rows : Arguments → Rows → Verdict × Rows
on_rows x = on_table (call_of x)

pub record Went (t : List ℕ) (cs : List Arguments) (xs : List Verdict) (ts : List (List ℕ)) (e : List ℕ) : Type 0 where
  pub answered : xs ≡ answers on_rows (rows_in t) cs
  pub rows : map rows_in ts ≡ states on_rows (rows_in t) cs
  pub end : rows_in e ≡ final on_rows (rows_in t) cs
  pub well : AllWell ts
  pub end_well : well_formed (table_in e) ≡ true

pub went : {t e : List ℕ} {cs : List Arguments} {xs : List Verdict} {ts : List (List ℕ)} → Run t cs xs ts e → well_formed (table_in t) ≡ true → Went t cs xs ts e
unfolding answers states final
went stop w = record { answered = refl; rows = refl; end = refl; well = (w, tt); end_well = w }
went (call {t = t} {t' = t'} {c = c} {x = x} d r) w =
    let n : x ≡ (on_rows c (rows_in t)).0 = d.answer ∙ rw w in
    let s : rows_in t' ≡ (on_rows c (rows_in t)).1 = d.rows ∙ rw w in
    let k = went r (d.well ∙ w) in
    record {
      answered = ap₂ ◌∷◌ n (rw s at k.answered);
      rows = ap (λ (l : List Rows). rows_in t ∷ l) (rw s at k.rows);
      end = rw s at k.end;
      well = (w, k.well);
      end_well = k.end_well;
    }

-- a refusal leaves every octet as it was
same-octets : (c : Call) (n : ℕ) (t : List ℕ) → (n ≡ 0 → ⊥) → octets_after c n t ≡ t
unfolding octets_after
same-octets c zero t h = absurd (h refl)
same-octets c (suc n) t h = refl

pub stays : (c : Call) (t t' : List ℕ) (v : Verdict) → Transition c t v t' → (v.number ≡ 0 → ⊥) → t' ≡ t
stays c t t' v d h = d.octets ∙ same-octets c v.number t h

-- whatever octets hold has its cells
rows_whole : (k : ℕ) (s : List ℕ) → WholeRows (many row_in 1592 k s)
unfolding many row_in
rows_whole zero s = tt
rows_whole (suc k) s = (many-count recipient_in 92 16 (part 116 1472 (take 1592 s)), rows_whole k (drop 1592 s))

pub whole : (s : List ℕ) → Whole (table_in s)
unfolding table_in
whole s = (many-count row_in 1592 32 (part 0 50944 s), rows_whole 32 (part 0 50944 s))

-- a table with no used row
module _ (t : Table) (none : t.count ≡ 0) where
  pub empty-well : well_formed t ≡ true
  unfolding well_formed all increasing
  empty-well = rw none

  pub no_rows : see t ≡ []
  unfolding see
  no_rows = rw none
