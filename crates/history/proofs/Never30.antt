-- DEMAND 3, of the number 30: from a table with no used row, 30 never arises. In a run of any list of postings, receipts and releases, refused ones included, no
-- answer is 30, nor is it the answer of the listing's call before the first call or after any.
-- The hypotheses: the run, whose steps are the contracts of `post`, `receipt` and `release` (`Transition`), and that the first table has no used row. Assumes nothing else.
use Prim.Native.Nat.{ℕ, zero, suc}
use mathlib.Core.Path.{◌≡◌, refl}
use mathlib.Core.Bool.{Bool, true, false, cond, ◌&&◌}
use mathlib.Core.List.{List, [], ◌∷◌}
use mathlib.Core.Option.{Option, none, some}
use lib.ListN.{length}
use lib.Dec.{leb, eqb}
use borrow.Author.Tests.{eqb-false}
use native.Mathlib.Omega.{arith}
use Rattle.codec.specs.Answer.{pick}
use Rattle.codec.specs.Codec.{first}
use Rattle.codec.specs.Verdict.{Verdict, in_block, plain, first_of}
use Rattle.order.specs.Values.{Address, by_address, by_key, key_fault}
use Rattle.calls.specs.Keyed.{find}
use Rattle.calls.specs.Machine.{step}
use Rattle.calls.specs.Operations as theory
use Rattle.order.specs.Requests.{Ask, Mark, settle}
use Rattle.calls.specs.Operations.{post, receipt, release}
use Rattle.order.specs.Calls.{Operation, Row, Rows, on_table, written, reply, replied, marked, rules}
use Rattle.calls.specs.Runs.{answers}
use Rattle.header.specs.declared.Header.{Header}
use Rattle.writer.specs.Writing.{fault_of}
use Rattle.order.specs.declared.Key.{Key as DeclaredKey}
use Rattle.table.specs.WellFormed.{well_formed}
use Rattle.table_octets.specs.Table.{table_in}
use Rattle.arguments.specs.Arguments.{Arguments, posting, receiving, releasing, has_block, block_at, asks, some_recipient, one_recipient, named, posting_fault, receipt_fault, call_of}
use Rattle.row_text.specs.Text.{listed}
use Rattle.listing.specs.Listing.{done, rejected, listing_of, listing}
use Rattle.history.specs.History.{Run}
use Rattle.history.specs.Demand3.{None30, NoListing30}
use Rattle.history.proofs.Runs.{rows_in, AllWell, on_rows, went, empty-well}
use Rattle.history.proofs.Faults.{first_gives, first-of-gives, test-gives, key-gives, fault-gives}

-- ---- no number is 30

abbrev Not30 : ℕ → Type 0
Not30 n = n ≡ 30 → ⊥

-- a number beside 30
no : (n : ℕ) → eqb n 30 ≡ false → Not30 n
no n = eqb-false n 30

record-not : (h : Header) (count : ℕ) → Not30 (fault_of h count).number
record-not = fault-gives Not30 (no 0 refl) (no 3 refl) (no 4 refl) (no 6 refl) (no 2 refl) (no 5 refl) (no 7 refl) (λ n l m e. omega (arith, l, e)) (no 12 refl)

key-not : (k : DeclaredKey) → Not30 (key_fault k)
key-not = key-gives Not30 (no 0 refl) (no 3 refl) (no 4 refl) (no 6 refl)

-- what the arguments alone refuse: the record's own, then 29 and two others
arguments-not : (v : Verdict) (a b c : Bool) (f g : ℕ) → Not30 v.number → Not30 f → Not30 g → Not30 (first_of v (plain (first (pick a 0 29) (first (pick b 0 f) (pick c 0 g))))).number
arguments-not v a b c f g hv hf hg =
    first-of-gives Not30 (no 0 refl) v _ hv
    (first_gives Not30 (no 0 refl) (test-gives Not30 (no 0 refl) a 29 (no 29 refl))
    (first_gives Not30 (no 0 refl) (test-gives Not30 (no 0 refl) b f hf) (test-gives Not30 (no 0 refl) c g hg)))

posting-not : (h : Header) (n count : ℕ) → Not30 (posting_fault h n count).number
unfolding posting_fault
posting-not h n count = arguments-not (fault_of h count) (has_block h n) (asks (block_at h n)) (some_recipient h) 20 21 (record-not h count) (no 20 refl) (no 21 refl)

receipt-not : (h : Header) (n count : ℕ) → Not30 (receipt_fault h n count).number
unfolding receipt_fault
receipt-not h n count = arguments-not (fault_of h count) (has_block h n) (block_at h n).response.present (h.front.originator.present && one_recipient h) 24 25 (record-not h count) (no 24 refl) (no 25 refl)

-- what the rows say: 22 and 23, 26 to 28, 26
entered-not : (r : Row) (o : Option Row) (b : Bool) → Not30 (theory.entered rules r o (cond b (some (plain 23)) none)).0.number
entered-not r (some o) b = no 22 refl
entered-not r none true = no 23 refl
entered-not r none false = no 0 refl

written-not : (o : Option Mark) → Not30 (written o).0
written-not none = no 28 refl
written-not (some n) = no 0 refl

reply-not : (a : Ask) (c : ℕ) (o : Option Mark) → Not30 (reply a c o).0
reply-not a c none = no 27 refl
reply-not a c (some m) = written-not (settle a c m)

marked-not : (w : Address) (r : Row) (x : ℕ × Option Mark) → Not30 x.0 → Not30 (theory.patched rules r (marked w r x)).0.number
marked-not w r (n, none) h = h
marked-not w r (n, some m) h = no 0 refl

act-not : (d : Operation) (n : ℕ) (o : Option Row) → Not30 (theory.act rules d n tt o).0.number
act-not (post k r) n o = entered-not r o (leb 32 n)
act-not (receipt k p) n none = no 26 refl
act-not (receipt k p) n (some r) = marked-not p.0 r (replied p.0 p.1 r) (reply-not r.0 p.1 (find by_address p.0 r.1))
act-not (release k) n none = no 26 refl
act-not (release k) n (some r) = no 0 refl

named-not : (f : Verdict) (d : Operation) (s : Rows) → Not30 f.number → Not30 (on_table (named f d) s).0.number
unfolding on_table theory.on_table step
named-not f d s = go f.number f.block
  where
    go : (n b : ℕ) → Not30 n → Not30 (on_table (named (in_block b n) d) s).0.number
    go zero b h = act-not d (length s) (find by_key (theory.key d) s)
    go (suc n) b h = h

-- the table's answer to any call
pub table-not : (a : Arguments) (s : Rows) → Not30 (on_table (call_of a) s).0.number
unfolding call_of
table-not (posting h n count) s = named-not (posting_fault h n count) _ s (posting-not h n count)
table-not (receiving h n count) s = named-not (receipt_fault h n count) _ s (receipt-not h n count)
table-not (releasing k) s = named-not (plain (key_fault k)) _ s (key-not k)

-- ---- the run

answers-none : (cs : List Arguments) (s : Rows) → None30 (answers on_rows s cs)
unfolding answers
answers-none [] s = tt
answers-none (c ∷ cs) s = (table-not c s, answers-none cs (on_rows c s).1)

-- a run from a well-formed table
pub never-30-well : {t e : List ℕ} {cs : List Arguments} {xs : List Verdict} {ts : List (List ℕ)} → Run t cs xs ts e → well_formed (table_in t) ≡ true → None30 xs
never-30-well {t = t} {cs = cs} run w = rw (went run w).answered (answers-none cs (rows_in t))

-- a run from a table with no used row
pub never-30 : {t e : List ℕ} {cs : List Arguments} {xs : List Verdict} {ts : List (List ℕ)} → Run t cs xs ts e → (table_in t).count ≡ 0 → None30 xs
never-30 {t = t} run empty = never-30-well run (empty-well (table_in t) empty)

-- ---- the listing

not-thirty : (b : Bool) (k p i : ℕ) → pick b (done k) (rejected 11 0 0) ≡ rejected 30 p i → ⊥
not-thirty true k p i e = let z : ◌≡◌ {A = ℕ} 0 1 = cc in omega arith
not-thirty false k p i e = let z : ◌≡◌ {A = ℕ} 11 30 = cc in omega arith

listing_none : (n room : ℕ) (ts : List (List ℕ)) → AllWell ts → NoListing30 n room ts
unfolding listing listing_of
listing_none n room [] w = tt
listing_none n room (t ∷ ts) w = (
  λ p i e. let g : listing_of (rows_in t) n room ≡ rejected 30 p i = rw w.0 at e in not-thirty (leb (length (listed (rows_in t) n)) room) (length (listed (rows_in t) n)) p i g,
  listing_none n room ts w.1,
)

-- before the first call and after each
pub listing-never-30 : {t e : List ℕ} {cs : List Arguments} {xs : List Verdict} {ts : List (List ℕ)} → Run t cs xs ts e → (table_in t).count ≡ 0 → (n room : ℕ) → NoListing30 n room ts
listing-never-30 {t = t} {ts = ts} run empty n room = listing_none n room ts (went run (empty-well (table_in t) empty)).well
