-- How long a text can be: a row of a well-formed table has at most 4,096 octets. Assumes nothing.
use Prim.Native.Nat.{ℕ, zero, suc, ◌+◌, ◌*◌, ◌/◌, ◌≤◌}
use mathlib.Core.Path.{◌≡◌, refl}
use mathlib.Core.Bool.{Bool, true, false, ◌||◌, not}
use mathlib.Core.List.{List, [], ◌∷◌, map}
use mathlib.Core.Option.{Option, none, some}
use lib.ListN.{length, length-append, length-take}
use lib.Dec.{leb, eqb, lit<}
use borrow.Author.Tests.{eqb-true}
use native.Mathlib.Omega.{arith}
use Rattle.codec.specs.Answer.{pick}
use Rattle.codec.specs.Codec.{flag, first, present, same, tested, viewed, ◌then_by◌}
use Rattle.codec.specs.Characters.{characters as legal}
use Rattle.codec.specs.Lists.{non_empty}
use Rattle.codec.proofs.Bounds.{cells-legal}
use Rattle.codec.proofs.Sequences.{first-zero}
use Rattle.text.specs.Texts.{text, chars_of, no_text}
use Rattle.text.specs.declared.Text.{Text}
use Rattle.header.specs.Rules.{all}
use Rattle.header.specs.Table.{address, stamp, maybe, unit_name}
use Rattle.header.specs.declared.Address.{Address}
use Rattle.header.specs.declared.Requests.{Requests}
use Rattle.order.specs.Values.{address_of, option_of}
use Rattle.order.specs.Requests.{ask_of}
use Rattle.table.specs.Rows.{code_of, recipient_of, used_recipients, row_of, used_rows, see}
use Rattle.table.specs.WellFormed.{recipient_fine, row_fine, well_formed}
use Rattle.table.specs.declared.Recipient.{Recipient}
use Rattle.table.specs.declared.Row.{Row}
use Rattle.table.specs.declared.Table.{Table}
use Rattle.table.proofs.Parts.{and_both, fine-row, fine-table}
use Rattle.row_text.specs.Text.{digits, decimal, escaped, characters, address_text, extension_text, code_text, recipient_lines, row_text, row_at, listed}
use Rattle.row_text.specs.Parts.{line_of}
use Rattle.row_text.proofs.Texts.{urn-text, name-length, requests-length, line-length, letters-length, key-text-length, key-line-length, row-length, count-line-length}

picked : (b : Bool) (x n : ℕ) → x ≤ n → pick b x 0 ≤ n
picked true x n h = h
picked false x n h = omega arith

digits-bounded : (k n : ℕ) → length (digits k n) ≤ k
unfolding digits
digits-bounded zero n = omega arith
digits-bounded (suc k) n = rw length-append (go (leb 10 n) (digits k (n / 10)) (digits-bounded k (n / 10)))
  where
    go : (b : Bool) (l : List ℕ) → length l ≤ k → length (pick b l []) + 1 ≤ suc k
    go true l h = omega arith
    go false l h = omega arith

pub decimal-bounded : (n : ℕ) → length (decimal n) ≤ 10
decimal-bounded n = digits-bounded 10 n

escaped-bounded : (c : ℕ) → length (escaped c) ≤ 3
unfolding escaped
escaped-bounded c = go (leb c 31 || eqb c 34 || eqb c 92) _ _
  where
    go : (b : Bool) (x y : ℕ) → length (pick b (92 ∷ x ∷ y ∷ []) (c ∷ [])) ≤ 3
    go true x y = omega arith
    go false x y = omega arith

characters-bounded : (l : List ℕ) → length (characters l) ≤ 3 * length l
unfolding characters
characters-bounded [] = omega arith
characters-bounded (c ∷ l) = let h = characters-bounded l in let e = escaped-bounded c in rw length-append (omega arith)

-- a legal text has at most 64 characters
text-bounded : (t : Text) → (text 64).check t ≡ 0 → length (chars_of t) ≤ 64
unfolding text viewed
text-bounded t h =
    let m = (cells-legal 0 64 64 4 (lit< tt) (tested non_empty 4 (legal 64)) (t.chars, t.len) h).0 in
    rw length-take (omega arith)

-- where a legal address has no URN, its name is present
named : (a : Address) → address.check a ≡ 0 → a.urn.present ≡ false → (text 64).check a.name.text ≡ 0
unfolding address unit_name viewed ◌then_by◌ tested flag first present
named a h e = go a.urn.present a.name.present (first-zero ((maybe 24 0 16777215).check a.urn) _ h).1 e
  where
    go : (b p : Bool) → first (pick (same p (not b)) 0 6) ((present no_text (text 64) p).check a.name.text) ≡ 0 → b ≡ false → (text 64).check a.name.text ≡ 0
    go true p u e = cc
    go false true u e = u
    go false false u e = absurd (omega arith)

pub address-bounded : (a : Address) → address.check a ≡ 0 → length (address_text (address_of a)) ≤ 194
address-bounded a h = go a.urn.present refl
  where
    go : (b : Bool) → a.urn.present ≡ b → length (address_text (address_of a)) ≤ 194
    go true e = let d = decimal-bounded a.urn.value in rw (urn-text a a.urn refl e) (omega arith)
    go false e =
        let t = text-bounded a.name.text (named a h e) in
        let c = characters-bounded (chars_of a.name.text) in
        rw (name-length a a.urn refl e) (omega arith)

code-bounded : (n : Option ℕ) → length (code_text n) ≤ 10
unfolding code_text
code-bounded none = omega arith
code-bounded (some n) = decimal-bounded n

extension-bounded : (n : Option ℕ) → length (extension_text n) ≤ 10
unfolding extension_text
extension-bounded none = omega arith
extension-bounded (some n) = decimal-bounded n

-- a request's code, if the request is asked
asked-bounded : (b : Bool) (n : ℕ) → pick b (length (code_text (code_of n)) + 3) 0 ≤ 13
asked-bounded b n = picked b _ 13 (omega (arith, code-bounded (code_of n)))

line-bounded : (a : Requests) (r : Recipient) → address.check r.address ≡ 0 → length (line_of a r) ≤ 236
line-bounded a r h =
    let d = address-bounded r.address h in
    let x = asked-bounded a.machine r.machine in
    let y = asked-bounded a.acknowledge r.acknowledge in
    let z = asked-bounded a.reply r.reply in
    rw (line-length a r, requests-length a r) (omega arith)

-- so many lines of recipients whose addresses are legal
lines-bounded : (a : Requests) (l : List Recipient) → all (recipient_fine a) l ≡ true → length (recipient_lines (ask_of a) (map recipient_of l)) ≤ 236 * length l
unfolding recipient_lines all line_of recipient_fine
lines-bounded a [] h = omega arith
lines-bounded a (r ∷ l) h =
    let p = and_both (recipient_fine a r) _ h in
    let c = (and_both _ _ (and_both _ _ (and_both _ _ (and_both _ _ p.0).0).0).0).0 in
    let k = line-bounded a r (eqb-true _ 0 c) in
    let m = lines-bounded a l p.1 in
    rw length-append (omega arith)

pub row-bounded : (r : Row) → row_fine r ≡ true → length (row_text (row_of r)) ≤ 4096
row-bounded r h =
    let f = fine-row r h in
    let d = address-bounded r.key.address (first-zero _ (stamp.check r.key.stamp) f.key).0 in
    let x = extension-bounded (option_of r.key.stamp.extension) in
    let m = picked r.asked.machine 1 1 (omega arith) in
    let o = picked r.asked.acknowledge 1 1 (omega arith) in
    let y = picked r.asked.reply 1 1 (omega arith) in
    let l = lines-bounded r.asked (used_recipients r) f.recipients in
    let n = length-take r.count r.recipients in
    rw (row-length r r.asked r.count refl refl, key-line-length r.asked r.key, key-text-length r.key, letters-length r.asked) (omega (arith, f.most))

rows-bounded : (l : List Row) (i : ℕ) → all row_fine l ≡ true → length (row_at (map row_of l) i) ≤ 4096
unfolding row_at all
rows-bounded [] i h = omega arith
rows-bounded (r ∷ l) zero h = row-bounded r (and_both (row_fine r) _ h).0
rows-bounded (r ∷ l) (suc i) h = rows-bounded l i (and_both (row_fine r) _ h).1

-- any row of a well-formed table's listing
pub listed-bounded : (t : Table) (n : ℕ) → well_formed t ≡ true → length (listed (see t) n) ≤ 4096
unfolding listed see
listed-bounded t zero h = let d = decimal-bounded (length (map row_of (used_rows t))) in rw (count-line-length (length (map row_of (used_rows t)))) (omega arith)
listed-bounded t (suc i) h = rows-bounded (used_rows t) i (fine-table t h).rows
