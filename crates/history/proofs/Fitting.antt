-- The rows of a well-formed table fit into a table's cells: names have at most 64 characters, rows at most 16 recipients, and there are at most 32 rows. So the image of each row
-- has its 1,592 octets. Assumes nothing.
use Prim.Native.Nat.{ℕ, ◌-◌, ◌≤◌}
use mathlib.Core.Path.{◌≡◌, refl, ap, ◌∙◌}
use mathlib.Core.Bool.{Bool, true, false, not, cond}
use mathlib.Core.List.{List, [], ◌∷◌, ◌++◌, map}
use native.Mathlib.Omega.{arith}
use lib.ListN.{length, take, length-append, length-map, length-take, length-replicate}
use Rattle.codec.proofs.Sequences.{first-zero}
use Rattle.optional.specs.declared.OptionalNumber.{OptionalNumber}
use Rattle.header.specs.Rules.{all}
use Rattle.header.specs.Table as Table
use Rattle.header.specs.Zero.{no_number, no_optional_text, no_address, no_dtg, no_stamp, no_requests}
use Rattle.header.specs.declared.Address.{Address as DeclaredAddress}
use Rattle.header.specs.declared.Requests.{Requests}
use Rattle.calls.specs.Keyed.{InOrder}
use Rattle.order.specs.Values.{Address, urn, name, address_of, Key, key_of, by_address}
use Rattle.order.specs.Requests.{Mark}
use Rattle.order.specs.Calls.{Row, Rows}
use Rattle.cells.specs.Cells.{zeros, word_octets, flag_octets, mark_octets, many_octets, Each}
use Rattle.cells.proofs.Parts.{join, word-long, mark-long}
use Rattle.record_octets.specs.Record.{optional_number_octets, text_octets, optional_text_octets, address_octets, date_octets, time_octets, dtg_octets, stamp_octets, requests_octets}
use Rattle.record_octets.proofs.Back.{requests-long}
use Rattle.table.specs.Rows.{recipient_of, used_recipients, row_of, used_rows, see}
use Rattle.table.specs.WellFormed.{recipient_fine, row_fine, well_formed}
use Rattle.table.specs.Zero.{no_recipient, no_row}
use Rattle.table.specs.declared.Recipient.{Recipient}
use Rattle.table.specs.declared.Row.{Row as DeclaredRow}
use Rattle.table.specs.declared.Table.{Table as DeclaredTable}
use Rattle.table.proofs.InOrder.{recipients-in-order}
use Rattle.table.proofs.Parts.{and_both, fine-table, fine-row}
use Rattle.table_octets.specs.Table.{key_octets, recipient_octets, row_octets}
use Rattle.table_octets.specs.Image.{text_image, address_image, number_image, stamp_image, key_image, ask_image, code_image, recipient_image, recipients_image, row_image}
use Rattle.history.proofs.SameKeys.{legal-address}
use Rattle.history.proofs.SameTables.{address-legal}
use Rattle.history.proofs.Filled.{Images, filled-long}

-- ---- what fits

abbrev pub Fits : Address → Type 0
Fits (urn n) = Unit {0}
Fits (name s) = length s ≤ 64

abbrev pub FitsAt : Address × Mark → Type 0
FitsAt x = Fits x.0

-- a row: its key's address, its recipients, who stand in order
pub record Fitting (x : Key × Row) : Type 0 where
  pub key : Fits x.0.from
  pub few : length x.1.1 ≤ 16
  pub recipients : Each FitsAt x.1.1
  pub order : InOrder by_address x.1.1

-- ---- what a well-formed table holds

address-fits : (a : DeclaredAddress) → (Table.address).check a ≡ 0 → Fits (address_of a)
unfolding address_of
address-fits a h = go a.urn.present refl
  where
    few : a.name.text.len ≤ 64 → length (take a.name.text.len a.name.text.chars) ≤ 64
    few l = omega (arith, l, length-take a.name.text.len a.name.text.chars)

    go : (b : Bool) → a.urn.present ≡ b → Fits (cond b (urn a.urn.value) (name (take a.name.text.len a.name.text.chars)))
    go true e = tt
    go false e = let L = legal-address a h in few (L.count (L.either ∙ ap not e))

module _ (a : Requests) where
  recipients-fit : (l : List Recipient) → all (recipient_fine a) l ≡ true → Each FitsAt (map recipient_of l)
  unfolding all
  recipients-fit [] e = tt
  recipients-fit (x ∷ l) e = let p = and_both (recipient_fine a x) _ e in (address-fits x.address (address-legal a x p.0), recipients-fit l p.1)

row_fits : (r : DeclaredRow) → row_fine r ≡ true → Fitting (row_of r)
unfolding key_of
row_fits r e =
    let f = fine-row r e in
    record {
      key = address-fits r.key.address (first-zero ((Table.address).check r.key.address) _ f.key).0;
      few = omega (arith, f.most, length-map (used_recipients r) recipient_of, length-take r.count r.recipients);
      recipients = recipients-fit r.asked (used_recipients r) f.recipients;
      order = recipients-in-order r e;
    }

rows_fit : (l : List DeclaredRow) → all row_fine l ≡ true → Each Fitting (map row_of l)
unfolding all
rows_fit [] e = tt
rows_fit (r ∷ l) e = let p = and_both (row_fine r) _ e in (row_fits r p.0, rows_fit l p.1)

module _ (t : DeclaredTable) (w : well_formed t ≡ true) where
  pub see-fits : Each Fitting (see t)
  unfolding see
  see-fits = rows_fit (used_rows t) (fine-table t w).rows

  pub see-few : length (see t) ≤ 32
  unfolding see
  see-few = omega (arith, (fine-table t w).fits, length-map (used_rows t) row_of, length-take t.count t.rows)

-- ---- the octets of an image

text-long : (s : List ℕ) → length s ≤ 64 → length (text_octets (text_image s)) ≡ 68
unfolding text_octets
text-long s h =
    let z : length (zeros (64 - length s)) ≡ 64 - length s = length-replicate (64 - length s) 0 in
    let c : length (s ++ zeros (64 - length s)) ≡ 64 = length-append s (zeros (64 - length s)) ∙ omega arith in
    join (s ++ zeros (64 - length s)) (word_octets (length s)) 64 4 c (word-long (length s))

pub address-long : (a : Address) → Fits a → length (address_octets (address_image a)) ≡ 80
unfolding address_image address_octets optional_number_octets optional_text_octets no_number no_optional_text text_octets mark_octets flag_octets word_octets
address-long (urn n) h = refl
address-long (name s) h =
    join (mark_octets false ++ word_octets 0) (mark_octets true ++ text_octets (text_image s)) 8 72 (join (mark_octets false) (word_octets 0) 4 4 (mark-long false) (word-long 0))
    (join (mark_octets true) (text_octets (text_image s)) 4 68 (mark-long true) (text-long s h))

number-long : (x : OptionalNumber) → length (optional_number_octets x) ≡ 8
unfolding optional_number_octets
number-long x = join (mark_octets x.present) (word_octets x.value) 4 4 (mark-long x.present) (word-long x.value)

dtg-long : (k : Key) → length (dtg_octets (stamp_image k).dtg) ≡ 24
unfolding dtg_octets date_octets time_octets word_octets
dtg-long k = refl

pub key-long : (k : Key) → Fits k.from → length (key_octets (key_image k)) ≡ 112
unfolding key_octets key_image stamp_octets
key-long k h =
    join (address_octets (address_image k.from)) (stamp_octets (stamp_image k)) 80 32 (address-long k.from h)
    (join (dtg_octets (stamp_image k).dtg) (optional_number_octets (number_image k.extension)) 24 8 (dtg-long k) (number-long (number_image k.extension)))

pub recipient-long : (x : Address × Mark) → Fits x.0 → length (recipient_octets (recipient_image x)) ≡ 92
unfolding recipient_octets recipient_image
recipient-long x h =
    let a : List ℕ = address_octets (address_image x.0) in
    let m : List ℕ = word_octets (code_image x.1.machine) in
    let k : List ℕ = word_octets (code_image x.1.acknowledge) in
    join (a ++ m ++ k) (word_octets (code_image x.1.reply)) 88 4
    (join (a ++ m) k 84 4 (join a m 80 4 (address-long x.0 h) (word-long (code_image x.1.machine))) (word-long (code_image x.1.acknowledge))) (word-long (code_image x.1.reply))

-- a cell that nothing uses
pub no-recipient : recipient_octets no_recipient ≡ zeros 92
unfolding recipient_octets no_recipient no_address no_number no_optional_text address_octets optional_number_octets optional_text_octets text_octets mark_octets flag_octets word_octets
no-recipient = refl

pub no-row : row_octets no_row ≡ zeros 1592
unfolding row_octets no_row key_octets stamp_octets dtg_octets date_octets time_octets requests_octets many_octets no_stamp no_dtg no_requests recipient_octets no_recipient no_address no_number no_optional_text address_octets optional_number_octets optional_text_octets text_octets mark_octets flag_octets word_octets
no-row = refl

pub recipients-images : (l : List (Address × Mark)) → Each FitsAt l → Images recipient_image recipient_octets 92 l
recipients-images [] g = tt
recipients-images (x ∷ l) g = (recipient-long x g.0, recipients-images l g.1)

-- what stands in front of a row's recipients
abbrev pub head_octets : Key × Row → List ℕ
head_octets x = key_octets (key_image x.0) ++ requests_octets (ask_image x.1.0) ++ zeros 1

pub head-long : (x : Key × Row) → Fitting x → length (head_octets x) ≡ 116
head-long x f =
    join (key_octets (key_image x.0) ++ requests_octets (ask_image x.1.0)) (zeros 1) 115 1
    (join (key_octets (key_image x.0)) (requests_octets (ask_image x.1.0)) 112 3 (key-long x.0 f.key) (requests-long (ask_image x.1.0))) refl

pub row-long : (x : Key × Row) → Fitting x → length (row_octets (row_image x)) ≡ 1592
unfolding row_octets row_image
row-long x f =
    join (head_octets x ++ many_octets recipient_octets (recipients_image x.1.1)) (word_octets (length x.1.1)) 1588 4
    (join (head_octets x) (many_octets recipient_octets (recipients_image x.1.1)) 116 1472 (head-long x f) (filled-long recipient_image no_recipient recipient_octets 92 no-recipient 16 x.1.1 f.few (recipients-images x.1.1 f.recipients)))
    (word-long (length x.1.1))

pub rows-images : (s : Rows) → Each Fitting s → Images row_image row_octets 1592 s
rows-images [] g = tt
rows-images (x ∷ s) g = (row-long x g.0, rows-images s g.1)
