-- The plain sheet of document 01's history, fed with the calls' arguments, is the one that the theory of the calls knows, fed with what the calls name; and its rows in key
-- order are those that the theory sorts. Assumes nothing.
use Prim.Native.Nat.Ordering.{eq}
use Prim.Native.Nat.Ordering.{gt}
use Prim.Native.Nat.Ordering.{lt}
use Prim.Native.Nat.{ℕ, zero, suc, Ordering}
use mathlib.Core.Path.{◌≡◌, refl, ap, sym, ◌∙◌}
use mathlib.Core.Bool.{Bool, true, false, cond, ◌&&◌}
use mathlib.Core.List.{List, [], ◌∷◌, ◌++◌, map}
use mathlib.Core.Logic.{inr}
use mathlib.Core.Option.{Option, none, some}
use lib.ListN.{length}
use lib.Dec.{leb}
use Rattle.codec.specs.Answer.{pick}
use Rattle.codec.specs.Codec.{first}
use Rattle.codec.specs.Verdict.{Verdict, in_block, plain, fine, first_of}
use Rattle.codec.proofs.Verdicts.{first-assoc, first_plain}
use Rattle.calls.specs.Order.{choose}
use Rattle.order.specs.Values.{Address, by_address, Key, key_of, by_key, key_fault}
use Rattle.calls.specs.Keyed.{find, put, alter, without, sort}
use Rattle.order.specs.Requests.{Ask, Mark, blank, any_of, open_to, settle}
use Rattle.calls.specs.Operations as operations
use Rattle.calls.specs.Operations.{post, receipt, release}
use Rattle.order.specs.Calls.{Operation, Row, Rows, make, reply, written, marked, rules}
use Rattle.order.specs.Sheet as theory
use Rattle.writer.specs.Writing.{fault_of}
use Rattle.arguments.specs.Arguments.{Arguments, posting, receiving, releasing, has_block, block_at, asks, some_recipient, one_recipient, posting_fault, receipt_fault, named, call_of}
use Rattle.history.specs.Sheet.{Answers, Sheet, row_with, answers_of, not_held, some_held, open_there, may_answer, entered, new_answers, coded, coded_at, answered, taken_out, ruled, refusal, sheet, placed, in_key_order}
use Rattle.history.proofs.Alike.{alike-cond, address-alike, key-alike}

row-with : (k : Key) (s : Sheet) → row_with k s ≡ find by_key k s
unfolding row_with find
row-with k [] = refl
row-with k (x ∷ s) = rw (key-alike k x.0, row-with k s) (alike-cond (by_key k x.0) (some x.1) (find by_key k s))

answers-of : (w : Address) (l : Answers) → answers_of w l ≡ find by_address w l
unfolding answers_of find
answers-of w [] = refl
answers-of w (x ∷ l) = rw (address-alike w x.0, answers-of w l) (alike-cond (by_address w x.0) (some x.1) (find by_address w l))

coded-at : (w : Address) (c : ℕ) (a : Ask) (l : Answers) → coded_at w c a l ≡ alter by_address w (coded a c) l
unfolding coded_at alter
coded-at w c a [] = refl
coded-at w c a (x ∷ l) =
    rw (address-alike w x.0, coded-at w c a l) (alike-cond (by_address w x.0) ((x.0, coded a c x.1) ∷ l) (x ∷ alter by_address w (coded a c) l))

abbrev coding : Address → ℕ → Row → Row
coding w c r = (r.0, coded_at w c r.0 r.1)

answered-is : (k : Key) (w : Address) (c : ℕ) (s : Sheet) → answered k w c s ≡ alter by_key k (coding w c) s
unfolding answered alter
answered-is k w c [] = refl
answered-is k w c (x ∷ s) =
    rw (key-alike k x.0, answered-is k w c s) (alike-cond (by_key k x.0) ((x.0, coding w c x.1) ∷ s) (x ∷ alter by_key k (coding w c) s))

taken-out : (k : Key) (s : Sheet) → taken_out k s ≡ without by_key k s
unfolding taken_out without
taken-out k [] = refl
taken-out k (x ∷ s) = rw (key-alike k x.0, taken-out k s) (alike-cond (by_key k x.0) (without by_key k s) (x ∷ without by_key k s))

-- the entry that is changed is the one that is found
alter-found : {K W : Type 0} (cmp : K → K → Ordering) (k : K) (f : W → W) (l : List (K × W)) (v : W) → find cmp k l ≡ some v → alter cmp k f l ≡ alter cmp k (λ o. f v) l
unfolding find alter
alter-found cmp k f [] v e = refl
alter-found {K = K} {W = W} cmp k f (x ∷ l) v e = go (cmp k x.0) e (λ d. alter-found cmp k f l v d)
  where
    go : (o : Ordering) → choose o (find cmp k l) (some x.1) (find cmp k l) ≡ some v → (find cmp k l ≡ some v → alter cmp k f l ≡ alter cmp k (λ o. f v) l) →
        choose o (x ∷ alter cmp k f l) ((x.0, f x.1) ∷ l) (x ∷ alter cmp k f l) ≡ choose o (x ∷ alter cmp k (λ o. f v) l) ((x.0, f v) ∷ l) (x ∷ alter cmp k (λ o. f v) l)
    go lt d ih = ap (λ (t : List (K × W)). x ∷ t) (ih d)
    go eq d ih = let q : x.1 ≡ v = cc in ap (λ (w : W). (x.0, f w) ∷ l) q
    go gt d ih = ap (λ (t : List (K × W)). x ∷ t) (ih d)

-- a new row's recipients, sorted
entered-is : (a : Address) (l : Answers) → entered a l ≡ put by_address a (some blank) l
unfolding entered put
entered-is a [] = refl
entered-is a (x ∷ l) = rw (entered-is a l)

new-answers : (l : List Address) → new_answers l ≡ sort by_address (map (λ r. (r, blank)) l)
unfolding new_answers sort
new-answers [] = refl
new-answers (a ∷ l) = entered-is a (new_answers l) ∙ ap (put by_address a (some blank)) (new-answers l)

-- the rows in key order
placed-is : (x : Key × Row) (s : Sheet) → placed x s ≡ put by_key x.0 (some x.1) s
unfolding placed put
placed-is x [] = refl
placed-is x (y ∷ s) = rw (placed-is x s)

pub in-key-order : (s : Sheet) → in_key_order s ≡ sort by_key s
unfolding in_key_order sort
in-key-order [] = refl
in-key-order (x ∷ s) = placed-is x (in_key_order s) ∙ ap (put by_key x.0 (some x.1)) (in-key-order s)

-- ---- the calls

-- the refusals that the arguments alone decide, taken together, come before those that look at the sheet
three : (b c d : ℕ) (fs : List ℕ) → refusal (b ∷ c ∷ d ∷ fs) ≡ first (first b (first c d)) (refusal fs)
unfolding first refusal
three (suc b) c d fs = refl
three zero (suc c) d fs = refl
three zero zero d fs = refl

together : (f : Verdict) (b c d : ℕ) (fs : List ℕ) → first_of f (plain (refusal (b ∷ c ∷ d ∷ fs))) ≡ first_of (first_of f (plain (first b (first c d)))) (plain (refusal fs))
together f b c d fs =
    ap (λ (n : ℕ). first_of f (plain n)) (three b c d fs)
    ∙ ap (first_of f) (sym (first_plain (first b (first c d)) (refusal fs)))
    ∙ sym (first-assoc f (plain (first b (first c d))) (plain (refusal fs)))

alone : (f : ℕ) → first f 0 ≡ f
unfolding first
alone zero = refl
alone (suc f) = refl

-- the answer and the rows, where nothing is counted
abbrev rows_of : Verdict × (Rows × Unit {0}) → Verdict × Rows
rows_of x = (x.0, x.1.0)

-- what the arguments refuse is the answer; otherwise what the sheet says
refused-or : (v : Verdict) (n : ℕ) (d : Operation) (s after : Sheet) → ruled (plain n) s after ≡ theory.sheet (inr d) s → ruled (first_of v (plain n)) s after ≡ theory.sheet (named v d) s
unfolding first_of theory.sheet operations.sheet
refused-or v n d s after e = go v.number v.block
  where
    go : (k b : ℕ) → ruled (first_of (in_block b k) (plain n)) s after ≡ theory.sheet (named (in_block b k) d) s
    go zero b = e
    go (suc k) b = refl

module _ (k : Key) (s : Sheet) where
  posts : (a : Ask) (rs : List Address) → ruled (plain (refusal (not_held (row_with k s) ∷ pick (leb 32 (length s)) 23 0 ∷ []))) s (s ++ (k, (a, new_answers rs)) ∷ []) ≡ theory.sheet (inr (post k (make a rs))) s
  unfolding first refusal theory.sheet operations.sheet operations.posting make
  posts a rs = rw (row-with k s, new-answers rs) (go (find by_key k s) (leb 32 (length s)))
    where
      go : (o : Option Row) (b : Bool) → ruled (plain (refusal (not_held o ∷ pick b 23 0 ∷ []))) s (s ++ (k, (a, sort by_address (map (λ r. (r, blank)) rs))) ∷ []) ≡ rows_of (operations.posting rules k (make a rs) (s, tt) o (cond b (some (plain 23)) none))
      go (some r) b = refl
      go none true = refl
      go none false = refl

  posting-is : (f : Verdict) (block asks to : ℕ) (a : Ask) (rs : List Address) → ruled (first_of f (plain (refusal (block ∷ asks ∷ to ∷ not_held (row_with k s) ∷ pick (leb 32 (length s)) 23 0 ∷ [])))) s (s ++ (k, (a, new_answers rs)) ∷ []) ≡ theory.sheet (named (first_of f (plain (first block (first asks to)))) (post k (make a rs))) s
  posting-is f block asks to a rs =
      ap (λ (v : Verdict). ruled v s (s ++ (k, (a, new_answers rs)) ∷ [])) (together f block asks to (not_held (row_with k s) ∷ pick (leb 32 (length s)) 23 0 ∷ []))
      ∙ refused-or (first_of f (plain (first block (first asks to)))) _ (post k (make a rs)) s _ (posts a rs)

  -- the code is written in the row that is found, at the recipient that is found
  module _ (w : Address) (c : ℕ) where
    written_is : (r : Row) (m : Mark) → find by_key k s ≡ some r → find by_address w r.1 ≡ some m → answered k w c s ≡ alter by_key k (λ o. (r.0, alter by_address w (λ p. coded r.0 c m) r.1)) s
    written_is r m e d =
        answered-is k w c s
        ∙ alter-found by_key k (coding w c) s r e
        ∙ ap (λ (l : Answers). alter by_key k (λ o. (r.0, l)) s) (coded-at w c r.0 r.1 ∙ alter-found by_address w (coded r.0 c) r.1 m d)

    marked-is : (r : Row) (m : Mark) → find by_key k s ≡ some r → find by_address w r.1 ≡ some m → ruled (plain (pick (any_of (open_to r.0 c m)) 0 28)) s (answered k w c s) ≡ rows_of (operations.writing rules k (s, tt) (marked w r (reply r.0 c (some m))))
    unfolding settle coded operations.writing
    marked-is r m e d = go (any_of (open_to r.0 c m)) (written_is r m e d)
      where
        go : (b : Bool) → answered k w c s ≡ alter by_key k (λ o. (r.0, alter by_address w (λ p. coded r.0 c m) r.1)) s → ruled (plain (pick b 0 28)) s (answered k w c s) ≡ rows_of (operations.writing rules k (s, tt) (marked w r (written (cond b (some (coded r.0 c m)) none))))
        go true q = ap (λ (t : Sheet). (fine, t)) q
        go false q = refl

    there-is : (r : Row) (o : Option Mark) → find by_key k s ≡ some r → find by_address w r.1 ≡ o → ruled (plain (open_there r.0 c o)) s (answered k w c s) ≡ rows_of (operations.writing rules k (s, tt) (marked w r (reply r.0 c o)))
    unfolding operations.writing
    there-is r none e d = refl
    there-is r (some m) e d = marked-is r m e d

    answer-is : (o : Option Row) → find by_key k s ≡ o → ruled (plain (may_answer w c o)) s (answered k w c s) ≡ rows_of (operations.receiving rules k (w, c) (s, tt) o)
    unfolding operations.receiving
    answer-is none e = refl
    answer-is (some r) e = rw (answers-of w r.1) (there-is r (find by_address w r.1) e refl)

    receives : ruled (plain (refusal (may_answer w c (row_with k s) ∷ []))) s (answered k w c s) ≡ theory.sheet (inr (receipt k (w, c))) s
    unfolding refusal theory.sheet operations.sheet
    receives = rw (row-with k s, alone (may_answer w c (find by_key k s))) (answer-is (find by_key k s) refl)

    receiving-is : (f : Verdict) (block answers one : ℕ) → ruled (first_of f (plain (refusal (block ∷ answers ∷ one ∷ may_answer w c (row_with k s) ∷ [])))) s (answered k w c s) ≡ theory.sheet (named (first_of f (plain (first block (first answers one)))) (receipt k (w, c))) s
    receiving-is f block answers one =
        ap (λ (v : Verdict). ruled v s (answered k w c s)) (together f block answers one (may_answer w c (row_with k s) ∷ []))
        ∙ refused-or (first_of f (plain (first block (first answers one)))) _ (receipt k (w, c)) s _ receives

  releasing-is : (fault : ℕ) → ruled (plain (refusal (fault ∷ some_held (row_with k s) ∷ []))) s (taken_out k s) ≡ theory.sheet (named (plain fault) (release k)) s
  unfolding first refusal theory.sheet operations.sheet operations.releasing
  releasing-is (suc f) = refl
  releasing-is zero = rw (row-with k s, taken-out k s) (go (find by_key k s))
    where
      go : (o : Option Row) → ruled (plain (refusal (some_held o ∷ []))) s (without by_key k s) ≡ rows_of (operations.releasing rules k (s, tt) o)
      go none = refl
      go (some r) = refl

pub sheet-is : (x : Arguments) (s : Sheet) → sheet x s ≡ theory.sheet (call_of x) s
unfolding sheet call_of posting_fault receipt_fault
sheet-is (posting h n count) s = posting-is _ s (fault_of h count) (pick (has_block h n) 0 29) (pick (asks (block_at h n)) 0 20) (pick (some_recipient h) 0 21) _ _
sheet-is (receiving h n count) s = receiving-is _ s _ _ (fault_of h count) (pick (has_block h n) 0 29) (pick (block_at h n).response.present 0 24) (pick (h.front.originator.present && one_recipient h) 0 25)
sheet-is (releasing k) s = releasing-is (key_of k) s (key_fault k)
