-- DEMAND 3, whole. Take any list of postings, receipts and releases, refused ones included, and run it from a table with no used row and anything in its other octets, each call lent the table's octets
-- as the call before left them. The proof is proofs/Demand3.antt.
use Rattle.std.specs.Prelude.{ℕ, ◌+◌, ◌≤◌, ◌≡◌, ◌⊎◌, List, [], ◌∷◌, ◌++◌, map, length}
use Rattle.std.proofs.Math.Option.{none}
use Rattle.codec.specs.Verdict.{Verdict, plain}
use Rattle.calls.specs.Runs.{exchange, final, answers, states}
use Rattle.order.specs.declared.Key.{Key}
use Rattle.cells.specs.Cells.{zeros}
use Rattle.table.specs.Rows.{see}
use Rattle.table_octets.specs.Table.{size_of_table, table_in}
use Rattle.table_octets.specs.Image.{image_of}
use Rattle.arguments.specs.Arguments.{Arguments, releasing, call_of, message}
use Rattle.transitions.specs.Transition.{Transition}
use Rattle.listing.specs.Listing.{rejected, listing}
use Rattle.history.specs.Sheet.{Sheet, sheet}
use Rattle.history.specs.History.{Run, table_listing, sheet_listing, MayChange, line_for}
use Rattle.history.specs.SameTable.{SameTable}

-- each answer, number and block, and the listing before the first call and after each with any row number and output, are those that the sheet gives
pub record AsTheSheet (cs : List Arguments) (xs : List Verdict) (ts : List (List ℕ)) : Type 0 where
  pub same_answers : xs ≡ answers sheet [] cs
  pub same_listings : (n : ℕ) (out : List ℕ) → map (λ t. table_listing t n out) ts ≡ map (λ s. sheet_listing s n out) (states sheet [] cs)

-- the two calls behind the first `place` have changed places: every call still gets its same answer, number and block, and the table ends the same
pub record Exchanged (place : ℕ) (xs ys : List Verdict) (e e' : List ℕ) : Type 0 where
  pub same_answers : ys ≡ exchange place xs
  pub same_table : SameTable (table_in e') (table_in e)

-- no answer is 30
abbrev pub None30 : List Verdict → Type 0
None30 [] = Unit {0}
None30 (x ∷ xs) = (x.number ≡ 30 → ⊥) × None30 xs

-- nor is it that of the listing's call, for any of these tables
abbrev pub NoListing30 : ℕ → ℕ → List (List ℕ) → Type 0
NoListing30 n room [] = Unit {0}
NoListing30 n room (t ∷ ts) = ((p b : ℕ) → listing (table_in t) n room ≡ rejected 30 p b → ⊥) × NoListing30 n room ts

-- the answer is one of these
abbrev pub OneOf : List Verdict → Verdict → Type 0
OneOf [] v = ⊥
OneOf (x ∷ xs) v = (v ≡ x) ⊎ OneOf xs v

-- the octets are the one image of the rows that they hold: no octet depends on what came before
abbrev pub IsImage : List ℕ → Type 0
IsImage t = t ≡ image_of (see (table_in t))

-- and so are those of each of these tables
abbrev pub AllImages : List (List ℕ) → Type 0
AllImages [] = Unit {0}
AllImages (t ∷ ts) = IsImage t × AllImages ts

pub record Demand3 : Type 0 where
  -- each answer and each listing are those of document 01's history
  pub history : {t e : List ℕ} {cs : List Arguments} {xs : List Verdict} {ts : List (List ℕ)} → Run t cs xs ts e → (table_in t).count ≡ 0 → AsTheSheet cs xs ts
  -- in which 30 never arises
  pub never30 : {t e : List ℕ} {cs : List Arguments} {xs : List Verdict} {ts : List (List ℕ)} → Run t cs xs ts e → (table_in t).count ≡ 0 → None30 xs × ((n room : ℕ) → NoListing30 n room ts)
  -- two neighbours that may change places do so and nothing else changes: two runs whose lists differ in them alone. Premise: a free line, before the first of the two, for each posting among them
  pub places : {t e t' e' : List ℕ} {xs ys : List Verdict} {ts ts' : List (List ℕ)} (pre : List Arguments) (a b : Arguments) (rest : List Arguments) →
      Run t (pre ++ a ∷ (b ∷ rest)) xs ts e → Run t' (pre ++ b ∷ (a ∷ rest)) ys ts' e' → (table_in t).count ≡ 0 → (table_in t').count ≡ 0 →
      MayChange a b → line_for a + line_for b + length (final sheet [] pre) ≤ 32 → Exchanged (length pre) xs ys e e'
  -- from octets that are all 0, which the call `empty` leaves, every table on the way and the last is the one image of its rows
  pub images : {e : List ℕ} {cs : List Arguments} {xs : List Verdict} {ts : List (List ℕ)} → Run (zeros size_of_table) cs xs ts e → AllImages ts × IsImage e
  -- so that two runs from there, whose lists differ in two neighbours that may change places, end in equal octets. The premises are those of `places`
  pub same_octets : {e e' : List ℕ} {xs ys : List Verdict} {ts ts' : List (List ℕ)} (pre : List Arguments) (a b : Arguments) (rest : List Arguments) →
      Run (zeros size_of_table) (pre ++ a ∷ (b ∷ rest)) xs ts e → Run (zeros size_of_table) (pre ++ b ∷ (a ∷ rest)) ys ts' e' →
      MayChange a b → line_for a + line_for b + length (final sheet [] pre) ≤ 32 → e' ≡ e
  -- a call that names no legal key is always refused: by the sheet, and by the call itself on any table at all
  pub unnamed : (x : Arguments) → message x ≡ none → (s : Sheet) → ((sheet x s).0.number ≡ 0 → ⊥) × ((sheet x s).1 ≡ s)
  pub unnamed_call : (x : Arguments) → message x ≡ none → {t t' : List ℕ} {v : Verdict} → Transition (call_of x) t v t' → (v.number ≡ 0 → ⊥) × (t' ≡ t)
  -- a release is done, or refused with one of five numbers and no block, on any table at all
  pub releases : (k : Key) {t t' : List ℕ} {v : Verdict} → Transition (call_of (releasing k)) t v t' → OneOf (map plain (0 ∷ 30 ∷ 3 ∷ 4 ∷ 6 ∷ 26 ∷ [])) v
