-- Document 01's history: a plain sheet of rows in the order of their posting, that takes calls one after the other. It is fed the calls' arguments alone.
-- Each call has its refusals in their order, the first that applies is the answer, and a refused call changes nothing. Only the record's own refusals may tell a block.
use Rattle.std.specs.Prelude.{ℕ, Bool, true, false, cond, ◌&&◌, List, [], ◌∷◌, ◌++◌, map, length, leb, eqb}
use Rattle.std.proofs.Math.Option.{Option, none, some}
use Rattle.codec.specs.Answer.{pick}
use Rattle.codec.specs.Codec.{first}
use Rattle.codec.specs.Verdict.{Verdict, plain, fine, whether, first_of}
use Rattle.writer.specs.Writing.{fault_of}
use Rattle.calls.specs.Order.{choose}
use Rattle.order.specs.Values.{Address, urn, name, address_of, by_address, Key, key_of, by_key, key_fault}
use Rattle.order.specs.Requests.{Ask, Mark, blank, any_of, open_to, write, ask_of}
use Rattle.arguments.specs.Arguments.{Arguments, posting, receiving, releasing, has_block, block_at, asks, recipients_of, some_recipient, one_recipient, posting_key, receipt_key}

-- the recipients, each with what it has answered so far
abbrev pub Answers : Type 0
Answers = List (Address × Mark)

-- a row: the asked requests, and the recipients with their codes
abbrev pub Row : Type 0
Row = Ask × Answers

abbrev pub Sheet : Type 0
Sheet = List (Key × Row)

-- ---- the same address, the same key: a URN is never a name, names go character by character, no extension is not extension 0

unfoldable pub same_list : List ℕ → List ℕ → Bool
same_list [] [] = true
same_list [] (y ∷ ys) = false
same_list (x ∷ xs) [] = false
same_list (x ∷ xs) (y ∷ ys) = eqb x y && same_list xs ys

unfoldable pub same_address : Address → Address → Bool
same_address (urn n) (urn m) = eqb n m
same_address (urn n) (name t) = false
same_address (name s) (urn m) = false
same_address (name s) (name t) = same_list s t

unfoldable pub same_extension : Option ℕ → Option ℕ → Bool
same_extension none none = true
same_extension none (some y) = false
same_extension (some x) none = false
same_extension (some x) (some y) = eqb x y

unfoldable pub same_key : Key → Key → Bool
same_key j k =
    same_address j.from k.from
    && eqb j.year k.year && eqb j.month k.month && eqb j.day k.day
    && eqb j.hour k.hour && eqb j.minute k.minute && eqb j.second k.second
    && same_extension j.extension k.extension

-- ---- looking at the sheet

-- the row with a key
unfoldable pub row_with : Key → Sheet → Option Row
row_with k [] = none
row_with k (x ∷ s) = cond (same_key k x.0) (some x.1) (row_with k s)

-- the codes at a recipient
unfoldable pub answers_of : Address → Answers → Option Mark
answers_of w [] = none
answers_of w (x ∷ l) = cond (same_address w x.0) (some x.1) (answers_of w l)

-- 22: the key is held
abbrev pub not_held : Option Row → ℕ
not_held none = 0
not_held (some r) = 22

-- 26: no row has the key
abbrev pub some_held : Option Row → ℕ
some_held none = 26
some_held (some r) = 0

-- 27: the answerer is no recipient of the row; 28: no request is open there that the code answers
abbrev pub open_there : Ask → ℕ → Option Mark → ℕ
open_there a c none = 27
open_there a c (some m) = pick (any_of (open_to a c m)) 0 28

abbrev pub may_answer : Address → ℕ → Option Row → ℕ
may_answer w c none = 26
may_answer w c (some r) = open_there r.0 c (answers_of w r.1)

-- ---- changing the sheet

-- a new row's recipients: in address order, each once, without codes
unfoldable pub entered : Address → Answers → Answers
entered a [] = (a, blank) ∷ []
entered a (x ∷ l) = choose (by_address a x.0) ((a, blank) ∷ x ∷ l) ((a, blank) ∷ l) (x ∷ entered a l)

unfoldable pub new_answers : List Address → Answers
new_answers [] = []
new_answers (a ∷ l) = entered a (new_answers l)

-- the code at each open request that it answers; a written code stays
unfoldable pub coded : Ask → ℕ → Mark → Mark
coded a c m = let q = open_to a c m in
    record {
      machine = write q.machine c m.machine;
      acknowledge = write q.acknowledge c m.acknowledge;
      reply = write q.reply c m.reply;
    }

unfoldable pub coded_at : Address → ℕ → Ask → Answers → Answers
coded_at w c a [] = []
coded_at w c a (x ∷ l) = cond (same_address w x.0) ((x.0, coded a c x.1) ∷ l) (x ∷ coded_at w c a l)

-- the code written in the row with the key, at the answerer
unfoldable pub answered : Key → Address → ℕ → Sheet → Sheet
answered k w c [] = []
answered k w c (x ∷ s) = cond (same_key k x.0) ((x.0, (x.1.0, coded_at w c x.1.0 x.1.1)) ∷ s) (x ∷ answered k w c s)

-- the row with the key taken out
unfoldable pub taken_out : Key → Sheet → Sheet
taken_out k [] = []
taken_out k (x ∷ s) = cond (same_key k x.0) (taken_out k s) (x ∷ taken_out k s)

-- ---- the calls

-- the answer, and the sheet as it was or as it is afterwards
abbrev pub ruled : Verdict → Sheet → Sheet → Verdict × Sheet
ruled v before after = whether v.number (fine, after) (v, before)

-- the first of these that applies; 0 where none does
unfoldable pub refusal : List ℕ → ℕ
refusal [] = 0
refusal (f ∷ fs) = first f (refusal fs)

unfoldable pub sheet : Arguments → Sheet → Verdict × Sheet
-- the record's own refusals, by the writer's checks; 29: no such block; 20: nothing is asked; 21: no recipient; 22: the key is held; 23: all 32 rows are held
sheet (posting h n count) s =
    let b = block_at h n in
    let k = key_of (posting_key h b) in
    ruled
    (first_of (fault_of h count)
    (plain (refusal (pick (has_block h n) 0 29 ∷ pick (asks b) 0 20 ∷ pick (some_recipient h) 0 21 ∷ not_held (row_with k s) ∷ pick (leb 32 (length s)) 23 0 ∷ []))))
    s (s ++ (k, (ask_of b.times.requests.requests, new_answers (map address_of (recipients_of h)))) ∷ [])
-- the record's own refusals; 29; 24: no G8; 25: G1 is absent, or G2 has no entry or several; then 26, 27 or 28
sheet (receiving h n count) s =
    let b = block_at h n in
    let k = key_of (receipt_key h b) in
    let w = address_of h.front.originator.address in
    let c = b.response.response.compliance.code in
    ruled
    (first_of (fault_of h count)
    (plain (refusal (pick (has_block h n) 0 29 ∷ pick b.response.present 0 24 ∷ pick (h.front.originator.present && one_recipient h) 0 25 ∷ may_answer w c (row_with k s) ∷ []))))
    s (answered k w c s)
-- the key's own refusals; 26
sheet (releasing k) s = ruled (plain (refusal (key_fault k ∷ some_held (row_with (key_of k) s) ∷ []))) s (taken_out (key_of k) s)

-- ---- the rows in key order, as the listing has them

unfoldable pub placed : Key × Row → Sheet → Sheet
placed x [] = x ∷ []
placed x (y ∷ s) = choose (by_key x.0 y.0) (x ∷ y ∷ s) (x ∷ s) (y ∷ placed x s)

unfoldable pub in_key_order : Sheet → Sheet
in_key_order [] = []
in_key_order (x ∷ s) = placed x (in_key_order s)
