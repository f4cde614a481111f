-- DEMAND 3. Take any list of postings, receipts and releases, refused ones included, and run it from a table with no used row, each call lent the table's octets as
-- the call before left them. Then each answer is the one that document 01's sheet gives, the listing (any row number, any output) before the first call and after each is the
-- sheet's, and two neighbours that may change places give every call its same answer and leave the same table: from octets that are all 0,
-- the same octets, for there every table on the way is the one image of its rows.
-- The hypotheses: the run, whose steps are the contracts of `post`, `receipt` and `release` (`Transition`), the listing's contract cites `listing` and `output_after`; that the
-- first table has no used row; and for the change of places document 01's premise. Assumes nothing else.
use Prim.Native.Nat.{ℕ, ◌+◌, ◌≤◌}
use mathlib.Core.Path.{◌≡◌, refl, ap, ap₂, sym, ◌∙◌}
use mathlib.Core.Bool.{true}
use mathlib.Core.List.{List, [], ◌∷◌, ◌++◌, map}
use lib.ListN.{length}
use native.Mathlib.Omega.{arith}
use Rattle.codec.specs.Verdict.{Verdict}
use Rattle.order.specs.Calls.{Rows}
use Rattle.order.specs.Sheet as theory
use Rattle.calls.specs.Runs.{exchange, final, answers, states, Changed}
use Rattle.order.proofs.Calls as calls
use Rattle.table.specs.WellFormed.{well_formed}
use Rattle.cells.specs.Cells.{zeros}
use Rattle.table_octets.specs.Table.{size_of_table, table_in}
use Rattle.table_octets.specs.Image.{image_of}
use Rattle.arguments.specs.Arguments.{Arguments, call_of}
use Rattle.history.specs.Sheet.{Sheet, sheet}
use Rattle.history.proofs.SheetIs.{sheet-is, in-key-order}
use Rattle.listing.specs.Listing.{Listing, listing, listing_of, output_after}
use Rattle.history.specs.History.{Run, table_listing, sheet_listing, MayChange, line_for}
use Rattle.history.specs.SameTable.{SameTable}
use Rattle.history.proofs.SameTables.{see-same}
use Rattle.history.proofs.Runs.{rows_in, AllWell, on_rows, Went, went, whole, empty-well, no_rows}
use Rattle.history.specs.Demand3.{IsImage, AllImages, Demand3}
use Rattle.history.proofs.Places.{apart, lines-within}
use Rattle.history.proofs.Images.{zeros-count, zeros-image, run-images}
use Rattle.history.proofs.Never30.{never-30, listing-never-30}
use Rattle.history.proofs.Unnamed.{unnamed, unnamed-call}
use Rattle.history.proofs.Releases.{releases}

-- the sheet is the theory's
plain : sheet ≡ (λ (x : Arguments). theory.sheet (call_of x))
plain = λ i x s. sheet-is x s i

abbrev rows_listing : ℕ → List ℕ → Rows → Listing × List ℕ
rows_listing n out s = (listing_of s n (length out), output_after s n (listing_of s n (length out)) out)

-- of a well-formed table the listing shows the rows
listings : (n : ℕ) (out : List ℕ) (ts : List (List ℕ)) → AllWell ts → map (λ t. table_listing t n out) ts ≡ map (rows_listing n out) (map rows_in ts)
unfolding listing
listings n out [] w = refl
listings n out (t ∷ ts) w = ap₂ ◌∷◌ (rw w.0) (listings n out ts w.1)

module _ {t e : List ℕ} {cs : List Arguments} {xs : List Verdict} {ts : List (List ℕ)} (run : Run t cs xs ts e) (none : (table_in t).count ≡ 0) where
  w : Went t cs xs ts e
  w = went run (empty-well (table_in t) none)

  -- each answer
  pub answers-are : xs ≡ answers sheet [] cs
  answers-are =
      w.answered ∙ ap (λ (s : Rows). answers on_rows s cs) (no_rows (table_in t) none)
      ∙ calls.history-answers call_of cs
      ∙ ap (λ (f : Arguments → Sheet → Verdict × Sheet). answers f [] cs) (sym plain)

  -- the listing before the first call and after each
  pub listings-are : (n : ℕ) (out : List ℕ) → map (λ t. table_listing t n out) ts ≡ map (λ s. sheet_listing s n out) (states sheet [] cs)
  listings-are n out =
      listings n out ts w.well
      ∙ ap (map (rows_listing n out)) (w.rows ∙ ap (λ (s : Rows). states on_rows s cs) (no_rows (table_in t) none))
      ∙ calls.history-tables call_of (rows_listing n out) cs
      ∙ ap₂ (λ (f : Arguments → Sheet → Verdict × Sheet) (g : Sheet → Sheet). map (λ s. rows_listing n out (g s)) (states f [] cs)) (sym plain) (λ i s. sym (in-key-order s) i)

  -- every table on the way is well formed: 30 never arises
  pub well-formed : AllWell ts × (well_formed (table_in e) ≡ true)
  well-formed = (w.well, w.end_well)

  rows_end : rows_in e ≡ final on_rows [] cs
  rows_end = w.end ∙ ap (λ (s : Rows). final on_rows s cs) (no_rows (table_in t) none)

  rows-answers : xs ≡ answers on_rows [] cs
  rows-answers = w.answered ∙ ap (λ (s : Rows). answers on_rows s cs) (no_rows (table_in t) none)

-- two runs that differ in two neighbours
module _ {t e t' e' : List ℕ} {xs ys : List Verdict} {ts ts' : List (List ℕ)} (pre : List Arguments) (a b : Arguments) (rest : List Arguments)
    (run : Run t (pre ++ a ∷ (b ∷ rest)) xs ts e) (run' : Run t' (pre ++ b ∷ (a ∷ rest)) ys ts' e') (none : (table_in t).count ≡ 0) (none' : (table_in t').count ≡ 0)
    (may : MayChange a b) (free : line_for a + line_for b + length (final sheet [] pre) ≤ 32) where
  held : length (final on_rows [] pre) ≡ length (final sheet [] pre)
  held = calls.history-count call_of pre ∙ ap (λ (f : Arguments → Sheet → Verdict × Sheet). length (final f [] pre)) (sym plain)

  changed : Changed on_rows [] pre a b rest
  changed = calls.change-of-places call_of pre a b rest (apart a b may) (omega (arith, held, lines-within a, lines-within b))

  -- every call still gets its same answer
  pub same-answers : ys ≡ exchange (length pre) xs
  same-answers = rows-answers run' none' ∙ changed.same_answers ∙ ap (exchange (length pre)) (sym (rows-answers run none))

  -- and the rows end the same
  pub same-end : rows_in e' ≡ rows_in e
  same-end = rows_end run' none' ∙ changed.same_end ∙ sym (rows_end run none)

  -- so that the tables are the same, as document 01 has it
  pub same-table : SameTable (table_in e') (table_in e)
  same-table = see-same (table_in e') (table_in e) (whole e') (whole e) (well-formed run' none').1 (well-formed run none).1 same-end

-- ---- from octets that are all 0

no-row-used : (table_in (zeros size_of_table)).count ≡ 0
no-row-used = zeros-count size_of_table refl

images : {e : List ℕ} {cs : List Arguments} {xs : List Verdict} {ts : List (List ℕ)} → Run (zeros size_of_table) cs xs ts e → AllImages ts × IsImage e
images run = run-images run (empty-well (table_in (zeros size_of_table)) no-row-used) (zeros-image size_of_table refl)

same-octets : {e e' : List ℕ} {xs ys : List Verdict} {ts ts' : List (List ℕ)} (pre : List Arguments) (a b : Arguments) (rest : List Arguments) →
    Run (zeros size_of_table) (pre ++ a ∷ (b ∷ rest)) xs ts e → Run (zeros size_of_table) (pre ++ b ∷ (a ∷ rest)) ys ts' e' →
    MayChange a b → line_for a + line_for b + length (final sheet [] pre) ≤ 32 → e' ≡ e
same-octets pre a b rest run run' may free =
    (images run').1 ∙ ap image_of (same-end pre a b rest run run' no-row-used no-row-used may free) ∙ sym (images run).1

-- ---- the statement

pub demand-3 : Demand3
demand-3 =
    record {
      history = λ run none. record { same_answers = answers-are run none; same_listings = listings-are run none };
      never30 = λ run none. (never-30 run none, listing-never-30 run none);
      places = λ pre a b rest run run' none none' may free. record {
        same_answers = same-answers pre a b rest run run' none none' may free;
        same_table = same-table pre a b rest run run' none none' may free;
      };
      images = images;
      same_octets = same-octets;
      unnamed = unnamed;
      unnamed_call = unnamed-call;
      releases = releases;
    }
