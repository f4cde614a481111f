-- Tables that are the same, as document 01 has it, are well formed or not together, and a well-formed one means the same rows: every call answers the same, and leaves
-- and lists the same rows. And well-formed tables that mean the same rows are the same. Assumes nothing.
use Prim.Native.Nat.{ℕ, zero, suc, ◌≤◌}
use mathlib.Core.Path.{◌≡◌, refl, ap, ap₂, sym, ◌∙◌}
use mathlib.Core.Bool.{Bool, true, false, cond, ◌&&◌, ◌||◌}
use mathlib.Core.List.{List, [], ◌∷◌, map, Forall₂}
use mathlib.Core.Option.{Option, none, some}
use lib.ListN.{length, take}
use lib.Seq.{length-take-le}
use lib.Dec.{leb, eqb}
use borrow.Author.Tests.{eqb-true}
use native.Mathlib.Omega.{arith}
use Rattle.codec.specs.Answer.{pick}
use Rattle.codec.proofs.ListLaws.{length-map}
use Rattle.header.specs.Table.{address}
use Rattle.codec.specs.Verdict.{plain}
use Rattle.header.specs.Rules.{all}
use Rattle.header.specs.declared.Requests.{Requests}
use Rattle.order.specs.Values.{Address, address_of, Key, key_of, by_address, by_key, key_fault}
use Rattle.order.specs.Calls.{on_table}
use Rattle.order.specs.Requests.{ask_of}
use Rattle.table.specs.Rows.{code_of, mark_of, recipient_of, used_recipients, row_of, used_rows, see, WholeRows, Whole}
use Rattle.table.specs.WellFormed.{increasing, recipient_fine, row_fine, well_formed}
use Rattle.table.specs.declared.Recipient.{Recipient}
use Rattle.table.specs.declared.Row.{Row}
use Rattle.table.specs.declared.Table.{Table}
use Rattle.table.proofs.Parts.{and_both, fine-table, fine-row}
use Rattle.table_octets.specs.Table.{table_in}
use Rattle.arguments.specs.Arguments.{Arguments, call_of}
use Rattle.pending.specs.Calls.{answer_on, rows_after}
use Rattle.listing.specs.Listing.{Listing, rejected, listing_of, listing, output_after}
use Rattle.history.specs.History.{table_listing}
use Rattle.history.specs.SameTable.{same_recipient, same_row, SameTable}
use Rattle.history.proofs.SameKeys.{and_same, address-check, key-check, address_same, key-same, address-told, key-told}

-- ---- recipients

module _ (a : Requests) where
  recipient-fine-same : (x y : Recipient) → same_recipient x y → recipient_fine a x ≡ recipient_fine a y
  unfolding same_recipient recipient_fine
  recipient-fine-same x y s = rw (address-check x.address y.address s.0, s.1.0, s.1.1.0, s.1.1.1)

  pub address-legal : (x : Recipient) → recipient_fine a x ≡ true → address.check x.address ≡ 0
  unfolding recipient_fine
  address-legal x e =
      let p = (and_both _ _ e).0 in
      let q = (and_both _ _ p).0 in
      let r = (and_both _ _ q).0 in
      eqb-true _ 0 (and_both _ _ r).0

  recipient-same : (x y : Recipient) → same_recipient x y → recipient_fine a x ≡ true → recipient_of x ≡ recipient_of y
  unfolding same_recipient mark_of
  recipient-same x y s e =
      let p = address_same x.address y.address s.0 (address-legal x e) in
      ap₂ (λ (v : Address) m. (v, m)) p (rw (s.1.0, s.1.1.0, s.1.1.1))

  all-fine-same : {xs ys : List Recipient} → Forall₂ same_recipient xs ys → all (recipient_fine a) xs ≡ all (recipient_fine a) ys
  unfolding all
  all-fine-same Forall₂.nil = refl
  all-fine-same (Forall₂.cons {a = x} {b = y} s r) = ap₂ ◌&&◌ (recipient-fine-same x y s) (all-fine-same r)

  recipients-same : {xs ys : List Recipient} → Forall₂ same_recipient xs ys → all (recipient_fine a) xs ≡ true → map recipient_of xs ≡ map recipient_of ys
  unfolding all
  recipients-same Forall₂.nil e = refl
  recipients-same (Forall₂.cons {a = x} {b = y} s r) e =
      let p = and_both (recipient_fine a x) _ e in
      ap₂ ◌∷◌ (recipient-same x y s p.0) (recipients-same r p.1)

addresses-of : (xs : List Recipient) → map (λ x. address_of x.address) xs ≡ map (λ p. p.0) (map recipient_of xs)
addresses-of [] = refl
addresses-of (x ∷ xs) = ap (λ (l : List Address). address_of x.address ∷ l) (addresses-of xs)

-- ---- rows

-- what a fine row has besides its recipients
abbrev head_fine : Row → Bool
head_fine r = eqb (key_fault r.key) 0 && (r.asked.machine || r.asked.acknowledge || r.asked.reply) && leb 1 r.count && leb r.count 16

head-same : (x y : Row) → same_row x y → head_fine x ≡ head_fine y
unfolding same_row
head-same x y s = rw (key-check x.key y.key s.0, s.1.0, s.1.1.1.0)

row-fine-same : (x y : Row) → same_row x y → row_fine x ≡ row_fine y
unfolding same_row row_fine
row-fine-same x y s =
    let r = s.1.1.1.1 in
    let fine : all (recipient_fine x.asked) (used_recipients x) ≡ all (recipient_fine y.asked) (used_recipients y) = all-fine-same x.asked r ∙ ap (λ (a : Requests). all (recipient_fine a) (used_recipients y)) s.1.0 in
    and_same _ _ _ _ (ap₂ ◌&&◌ (head-same x y s) fine) (λ e.
    let m = recipients-same x.asked r (and_both (head_fine x) _ e).1 in
    ap (increasing by_address) (addresses-of (used_recipients x) ∙ ap (map (λ p. p.0)) m ∙ sym (addresses-of (used_recipients y))))

row_same : (x y : Row) → same_row x y → row_fine x ≡ true → row_of x ≡ row_of y
unfolding same_row
row_same x y s e =
    let f = fine-row x e in
    let k = key-same x.key y.key s.0 f.key in
    let m = recipients-same x.asked s.1.1.1.1 f.recipients in
    λ i. (k i, (ask_of (s.1.0 i), m i))

all-rows-same : {xs ys : List Row} → Forall₂ same_row xs ys → all row_fine xs ≡ all row_fine ys
unfolding all
all-rows-same Forall₂.nil = refl
all-rows-same (Forall₂.cons {a = x} {b = y} s r) = ap₂ ◌&&◌ (row-fine-same x y s) (all-rows-same r)

rows_same : {xs ys : List Row} → Forall₂ same_row xs ys → all row_fine xs ≡ true → map row_of xs ≡ map row_of ys
unfolding all
rows_same Forall₂.nil e = refl
rows_same (Forall₂.cons {a = x} {b = y} s r) e =
    let p = and_both (row_fine x) _ e in
    ap₂ ◌∷◌ (row_same x y s p.0) (rows_same r p.1)

keys_of : (xs : List Row) → map (λ r. key_of r.key) xs ≡ map (λ p. p.0) (map row_of xs)
keys_of [] = refl
keys_of (x ∷ xs) = ap (λ (l : List Key). key_of x.key ∷ l) (keys_of xs)

-- ---- tables

module _ (x y : Table) (s : SameTable x y) where
  -- well formed or not together
  pub same-well : well_formed x ≡ well_formed y
  unfolding SameTable well_formed
  same-well =
      let r = s.1.1 in
      and_same _ _ _ _ (ap₂ ◌&&◌ (ap (λ n. leb n 32) s.1.0) (all-rows-same r)) (λ e.
      let m = rows_same r (and_both (leb x.count 32) _ e).1 in
      ap (increasing by_key) (keys_of (used_rows x) ∙ ap (map (λ p. p.0)) m ∙ sym (keys_of (used_rows y))))

  -- the rows of a well-formed one are those of the other
  pub same-see : well_formed x ≡ true → see x ≡ see y
  unfolding SameTable see
  same-see e = rows_same s.1.1 (fine-table x e).rows

  go : {A : Type 0} (b : Bool) (u v w : A) → (b ≡ true → u ≡ v) → pick b u w ≡ pick b v w
  go true u v w h = h refl
  go false u v w h = refl

  -- each call answers the same
  pub same_answer : (a : Arguments) → answer_on a x ≡ answer_on a y
  same_answer a = go (well_formed x) _ _ (plain 30) (λ e. ap (λ r. (on_table (call_of a) r).0) (same-see e)) ∙ ap (λ b. pick b (on_table (call_of a) (see y)).0 (plain 30)) same-well

  -- and leaves the same rows, where the table is well formed
  pub same_rows : (a : Arguments) → well_formed x ≡ true → rows_after a x ≡ rows_after a y
  same_rows a e = rw (← same-well, e, same-see e)

  same-listing : (n room : ℕ) → listing x n room ≡ listing y n room
  unfolding listing
  same-listing n room = go (well_formed x) _ _ (rejected 30 0 0) (λ e. ap (λ r. listing_of r n room) (same-see e)) ∙ ap (λ b. pick b (listing_of (see y) n room) (rejected 30 0 0)) same-well

  output-same : (b : Bool) → well_formed x ≡ b → (n : ℕ) (out : List ℕ) → output_after (see x) n (listing x n (length out)) out ≡ output_after (see y) n (listing y n (length out)) out
  unfolding listing output_after
  output-same true e n out = rw (← same-well, e, same-see e)
  output-same false e n out = rw (← same-well, e)

-- the listing's call answers the same and leaves the same output
pub same-listings : (x y : List ℕ) → SameTable (table_in x) (table_in y) → (n : ℕ) (out : List ℕ) → table_listing x n out ≡ table_listing y n out
same-listings x y s n out = ap₂ (λ (l : Listing) (o : List ℕ). (l, o)) (same-listing (table_in x) (table_in y) s n (length out)) (output-same (table_in x) (table_in y) s (well_formed (table_in x)) refl n out)

-- ---- the other way round: recipients

code-parts : (p q : Bool) (m n : ℕ) → (p ≡ true → m ≡ 0) → (q ≡ true → n ≡ 0) → ◌≡◌ {A = Option ℕ} (cond p none (some m)) (cond q none (some n)) → m ≡ n
code-parts true true m n h k e = h refl ∙ sym (k refl)
code-parts true false m n h k e = let z : ◌≡◌ {A = ℕ} 0 1 = cc in absurd (omega arith)
code-parts false true m n h k e = let z : ◌≡◌ {A = ℕ} 0 1 = cc in absurd (omega arith)
code-parts false false m n h k e = cc

code-value : (m n : ℕ) → code_of m ≡ code_of n → m ≡ n
unfolding code_of
code-value m n e = code-parts (eqb m 0) (eqb n 0) m n (eqb-true m 0) (eqb-true n 0) e

recipient-told : (a b : Requests) (x y : Recipient) → recipient_fine a x ≡ true → recipient_fine b y ≡ true → recipient_of x ≡ recipient_of y → same_recipient x y
unfolding same_recipient mark_of
recipient-told a b x y hx hy e = (
  address-told x.address y.address (address-legal a x hx) (address-legal b y hy) (ap (λ p. p.0) e),
  (
    code-value x.machine y.machine (ap (λ p. p.1.machine) e),
    (code-value x.acknowledge y.acknowledge (ap (λ p. p.1.acknowledge) e), code-value x.reply y.reply (ap (λ p. p.1.reply) e)),
  ),
)

-- lists that a function makes equal
module _ {A B : Type 0} (f : A → B) where
  map-head : (x y : A) (xs ys : List A) → map f (x ∷ xs) ≡ map f (y ∷ ys) → f x ≡ f y
  map-head x y xs ys e = cc

  map_tail : (x y : A) (xs ys : List A) → map f (x ∷ xs) ≡ map f (y ∷ ys) → map f xs ≡ map f ys
  map_tail x y xs ys e = cc

  -- every two entries are the same: so are the lists
  entries-told : {P Q : A → Bool} {S : A → A → Type 0} → ((x y : A) → P x ≡ true → Q y ≡ true → f x ≡ f y → S x y) → (xs ys : List A) → all P xs ≡ true → all Q ys ≡ true → map f xs ≡ map f ys → Forall₂ S xs ys
  unfolding all
  entries-told h [] [] p q e = Forall₂.nil
  entries-told h [] (y ∷ ys) p q e = let z : ◌≡◌ {A = ℕ} 0 1 = cc in absurd (omega arith)
  entries-told h (x ∷ xs) [] p q e = let z : ◌≡◌ {A = ℕ} 0 1 = cc in absurd (omega arith)
  entries-told {P} {Q} h (x ∷ xs) (y ∷ ys) p q e =
      let a = and_both (P x) _ p in
      let b = and_both (Q y) _ q in
      Forall₂.cons (h x y a.0 b.0 (map-head x y xs ys e)) (entries-told h xs ys a.1 b.1 (map_tail x y xs ys e))

  -- and they are equally long
  count-told : (l m : List A) (j k : ℕ) → j ≤ length l → k ≤ length m → map f (take j l) ≡ map f (take k m) → j ≡ k
  count-told l m j k hj hk e =
      let a : length (map f (take j l)) ≡ j = length-map f (take j l) ∙ length-take-le j l hj in
      let b : length (map f (take k m)) ≡ k = length-map f (take k m) ∙ length-take-le k m hk in
      sym a ∙ ap length e ∙ b

-- ---- rows

row_told : (x y : Row) → length x.recipients ≡ 16 → length y.recipients ≡ 16 → row_fine x ≡ true → row_fine y ≡ true → row_of x ≡ row_of y → same_row x y
unfolding same_row ask_of
row_told x y wx wy hx hy e =
    let f = fine-row x hx in
    let g = fine-row y hy in
    let m : map recipient_of (used_recipients x) ≡ map recipient_of (used_recipients y) = ap (λ p. p.1.1) e in
    let a : x.asked ≡ y.asked = λ i. record { machine = (e i).1.0.machine; acknowledge = (e i).1.0.acknowledge; reply = (e i).1.0.reply } in
    let n : x.count ≡ y.count = count-told recipient_of x.recipients y.recipients x.count y.count (omega (arith, f.most)) (omega (arith, g.most)) m in (
      key-told x.key y.key f.key g.key (ap (λ p. p.0) e),
      (a, (wx ∙ sym wy, (n, entries-told recipient_of (recipient-told x.asked y.asked) (used_recipients x) (used_recipients y) f.recipients g.recipients m))),
    )

rows_told : (xs ys : List Row) → WholeRows xs → WholeRows ys → all row_fine xs ≡ true → all row_fine ys ≡ true → map row_of xs ≡ map row_of ys → Forall₂ same_row xs ys
unfolding all
rows_told [] [] v w p q e = Forall₂.nil
rows_told [] (y ∷ ys) v w p q e = let z : ◌≡◌ {A = ℕ} 0 1 = cc in absurd (omega arith)
rows_told (x ∷ xs) [] v w p q e = let z : ◌≡◌ {A = ℕ} 0 1 = cc in absurd (omega arith)
rows_told (x ∷ xs) (y ∷ ys) v w p q e =
    let a = and_both (row_fine x) _ p in
    let b = and_both (row_fine y) _ q in
    Forall₂.cons (row_told x y v.0 w.0 a.0 b.0 (map-head row_of x y xs ys e)) (rows_told xs ys v.1 w.1 a.1 b.1 (map_tail row_of x y xs ys e))

whole-used : (n : ℕ) (l : List Row) → WholeRows l → WholeRows (take n l)
whole-used zero l w = tt
whole-used (suc n) [] w = tt
whole-used (suc n) (x ∷ l) w = (w.0, whole-used n l w.1)

-- ---- tables

-- well-formed tables with the same rows are the same
pub see-same : (x y : Table) → Whole x → Whole y → well_formed x ≡ true → well_formed y ≡ true → see x ≡ see y → SameTable x y
unfolding SameTable see
see-same x y v w hx hy e =
    let f = fine-table x hx in
    let g = fine-table y hy in
    let n : x.count ≡ y.count = count-told row_of x.rows y.rows x.count y.count (omega (arith, f.fits, v.0)) (omega (arith, g.fits, w.0)) e in (
      v.0 ∙ sym w.0,
      (n, rows_told (used_rows x) (used_rows y) (whole-used x.count x.rows v.1) (whole-used y.count y.rows w.1) f.rows g.rows e),
    )
