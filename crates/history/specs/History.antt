-- Lists of calls: their runs, what the listing shows of a table and of the sheet, and which two neighbours may change places.
use Rattle.std.specs.Prelude.{ℕ, ◌≡◌, List, length}
use Rattle.std.proofs.Math.Option.{some}
use Rattle.codec.specs.Verdict.{Verdict}
use Rattle.header.specs.declared.Header.{Header}
use Rattle.order.specs.Values.{Address, Key}
use Rattle.calls.specs.Runs.{Ran}
use Rattle.table.specs.Rows.{see}
use Rattle.table_octets.specs.Table.{table_in}
use Rattle.arguments.specs.Arguments.{Arguments, posting, receiving, releasing, call_of, message, answerer}
use Rattle.transitions.specs.Transition.{Transition}
use Rattle.history.specs.Sheet.{Sheet, in_key_order}
use Rattle.listing.specs.Listing.{Listing, listing, listing_of, output_after}

-- a run of the calls from the table with the octets t: their answers, the tables' octets before the first call and after each, and the last table's. Each step is
-- what the contracts of `post`, `receipt` and `release` promise
abbrev pub Run : List ℕ → List Arguments → List Verdict → List (List ℕ) → List ℕ → Type 0
Run = Ran (λ a t v t'. Transition (call_of a) t v t')

-- what the listing's call answers and leaves in the output, for any row number and output: of a table's octets, as its contract promises, and of the sheet's rows
abbrev pub table_listing : List ℕ → ℕ → List ℕ → Listing × List ℕ
table_listing t n out = let l = listing (table_in t) n (length out) in (l, output_after (see (table_in t)) n l out)

abbrev pub sheet_listing : Sheet → ℕ → List ℕ → Listing × List ℕ
sheet_listing s n out = let l = listing_of (in_key_order s) n (length out) in (l, output_after (in_key_order s) n l out)

-- two calls that may change places: they name different messages (a call that names none may change with any), or they are receipts from different answerers
pub data MayChange : Arguments → Arguments → Type 0 where
  other_message : {x y : Arguments} → ((k : Key) → message x ≡ some k → message y ≡ some k → ⊥) → MayChange x y
  other_answerer : {g h : Header} {m n c d : ℕ} → ((w : Address) → answerer g ≡ some w → answerer h ≡ some w → ⊥) → MayChange (receiving g m c) (receiving h n d)

-- the free line that a posting may use
abbrev pub line_for : Arguments → ℕ
line_for (posting h n count) = 1
line_for (receiving h n count) = 0
line_for (releasing k) = 0
