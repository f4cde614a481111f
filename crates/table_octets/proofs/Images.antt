-- An image means what it was made of, a legal value's image is its normal form, and an image is of the declared type. Assumes nothing.
use Prim.Native.Nat.{ℕ, zero, suc, ◌+◌, ◌-◌, ◌<◌, ◌≤◌}
use mathlib.Core.Path.{◌≡◌, refl, sym, ap, ◌∙◌}
use mathlib.Core.Bool.{Bool, true, false, ◌&&◌}
use mathlib.Core.List.{List, [], ◌∷◌, ◌++◌, map}
use mathlib.Core.Option.{Option, none, some}
use lib.ListN.{length, take, replicate, length-append, length-map, length-replicate}
use lib.Seq.{take-append_seam, take_at, length-take-le}
use lib.Dec.{leb, eqb, lit<}
use borrow.Author.Tests.{leb-true, eqb-true, ne_eqb}
use native.Mathlib.Omega.{arith}
use Rattle.codec.specs.Answer.{pick}
use Rattle.codec.specs.Codec.{first, flag, number, nothing, present, tested, viewed, ◌then_by◌}
use Rattle.codec.specs.Characters.{characters}
use Rattle.codec.specs.Lists.{cells}
use Rattle.codec.proofs.Fields.{and_left, and_right}
use Rattle.codec.proofs.Sequences.{first-zero}
use Rattle.codec.proofs.ListLaws.{fine-legal}
use Rattle.optional.specs.Optionals.{optional_number}
use Rattle.text.specs.Texts.{text, chars_of}
use Rattle.text.specs.declared.Text.{Text}
use Rattle.header.specs.Zero.{no_number, no_optional_text, no_address}
use Rattle.header.specs.Table.{address, stamp, dtg, date, day_in, time, unit_name}
use Rattle.header.specs.declared.Address.{Address as DeclaredAddress}
use Rattle.header.specs.declared.Requests.{Requests}
use Rattle.header.specs.declared.Stamp.{Stamp}
use Rattle.header.proofs.Lawful.{address-lawful, stamp-lawful}
use Rattle.cells.specs.Cells.{zeros, word_octets, flag_octets, mark_octets, Each}
use Rattle.cells.proofs.Sets.{Long}
use Rattle.record_octets.specs.Record.{optional_number_octets, text_octets, optional_text_octets, address_octets}
use Rattle.record_octets.specs.Typed.{TypedAddress}
use Rattle.order.specs.Values.{Address, urn, name, address_of, Key, key_of, option_of, key_fault}
use Rattle.order.specs.Requests.{Ask, ask_of, Mark, blank}
use Rattle.order.specs.Calls.{Row}
use Rattle.order.specs.declared.Key.{Key as DeclaredKey}
use Rattle.table.specs.Rows.{code_of, mark_of, recipient_of, row_of}
use Rattle.table.specs.Zero.{no_recipient}
use Rattle.table.specs.declared.Recipient.{Recipient}
use Rattle.table_octets.specs.Table.{recipient_octets}
use Rattle.table_octets.specs.Typed.{TypedKey, TypedRecipient, TypedRow}
use Rattle.table_octets.specs.Image.{text_image, address_image, number_image, stamp_image, key_image, ask_image, code_image, recipient_image, recipients_image, row_image}
use Rattle.table_octets.proofs.Back.{recipient-long}

-- ---- what an image means

pub address-of-image : (w : Address) → address_of (address_image w) ≡ w
unfolding address_of address_image no_number
address-of-image (urn n) = refl
address-of-image (name s) = ap name (take-append_seam s (replicate (64 - length s) 0))

pub option-of-image : (o : Option ℕ) → option_of (number_image o) ≡ o
unfolding option_of no_number
option-of-image none = refl
option-of-image (some n) = refl

pub key-of-image : (k : Key) → key_of (key_image k) ≡ k
unfolding key_of key_image
key-of-image k =
    λ i. record { from = address-of-image k.from i; year = k.year; month = k.month; day = k.day; hour = k.hour; minute = k.minute; second = k.second; extension = option-of-image k.extension i }

pub ask-of-image : (a : Ask) → ask_of (ask_image a) ≡ a
unfolding ask_of
ask-of-image a = refl

pub image-of-ask : (q : Requests) → ask_image (ask_of q) ≡ q
unfolding ask_of
image-of-ask q = refl

pub code-of-image : (o : Option ℕ) → (o ≡ some 0 → ⊥) → code_of (code_image o) ≡ o
unfolding code_of
code-of-image none h = refl
code-of-image (some n) h = rw (ne_eqb n 0 (λ e. h (ap some e)))

-- no code is 0, which stands for none in a cell
abbrev pub Coded : Address × Mark → Type 0
Coded x = (x.1.machine ≡ some 0 → ⊥) × (x.1.acknowledge ≡ some 0 → ⊥) × (x.1.reply ≡ some 0 → ⊥)

pub recipient-of-image : (x : Address × Mark) → Coded x → recipient_of (recipient_image x) ≡ x
unfolding recipient_image mark_of
recipient-of-image x h =
    λ i. (address-of-image x.0 i, record { machine = code-of-image x.1.machine h.0 i; acknowledge = code-of-image x.1.acknowledge h.1 i; reply = code-of-image x.1.reply h.2 i })

pub recipients-of-image : (l : List (Address × Mark)) → Each Coded l → map recipient_of (map recipient_image l) ≡ l
recipients-of-image [] h = refl
recipients-of-image (x ∷ l) h = λ i. recipient-of-image x h.0 i ∷ recipients-of-image l h.1 i

pub row-of-image : (x : Key × Row) → Each Coded x.1.1 → row_of (row_image x) ≡ x
unfolding row_image
row-of-image x h =
    let l : List (Address × Mark) = x.1.1 in
    let u : take (length l) (recipients_image l) ≡ map recipient_image l = take_at (map recipient_image l) (replicate (16 - length l) no_recipient) (length l) (length-map l recipient_image) in
    λ i. (key-of-image x.0 i, (ask-of-image x.1.0 i, (ap (map recipient_of) u ∙ recipients-of-image l h) i))

-- ---- a legal value's image

pub text-image : (t : Text) → (text 64).check t ≡ 0 → text_image (chars_of t) ≡ (text 64).norm t
unfolding text cells viewed tested characters
text-image t h =
    let f = (fine-legal (eqb (length t.chars) 64 && leb t.len 64) _ 4 (lit< tt) h).0 in
    let a : length t.chars ≡ 64 = eqb-true (length t.chars) 64 (and_left (eqb (length t.chars) 64) (leb t.len 64) f) in
    let b : t.len ≤ 64 = leb-true t.len 64 (and_right (eqb (length t.chars) 64) (leb t.len 64) f) in
    let e : length (chars_of t) ≡ t.len = length-take-le t.len t.chars (omega arith) in
    rw (e, a)

pub address-image : (a : DeclaredAddress) → address.check a ≡ 0 → address_image (address_of a) ≡ address.norm a
unfolding address optional_number unit_name viewed ◌then_by◌ flag tested present nothing number first address_of address_image no_number no_optional_text
address-image a h = go a.urn.present a.name.present a.urn.value a.name.text h
  where
    go : (b c : Bool) (v : ℕ) (t : Text) → address.check (record { urn = record { present = b; value = v }; name = record { present = c; text = t } }) ≡ 0
        → address_image (address_of (record { urn = record { present = b; value = v }; name = record { present = c; text = t } }))
        ≡ address.norm (record { urn = record { present = b; value = v }; name = record { present = c; text = t } })
    go true true v t h = let z : ◌≡◌ {A = ℕ} 6 0 = (first-zero (pick (leb 0 v && leb v 16777215) 0 3) 6 h).1 in absurd (omega arith)
    go true false v t h = refl
    go false true v t h = λ i. record { urn = no_number; name = record { present = true; text = text-image t h i } }
    go false false v t h = absurd (omega arith)

pub address-image-legal : (a : DeclaredAddress) → address.check a ≡ 0 → address.check (address_image (address_of a)) ≡ 0
address-image-legal a h = ap address.check (address-image a h) ∙ address-lawful.judged a ∙ h

-- a stamp whose extension is absent has none
pub stamp-norm-is : (s : Stamp) → stamp.norm s ≡ record { dtg = s.dtg; extension = number_image (option_of s.extension) }
unfolding option_of stamp dtg date day_in time optional_number viewed ◌then_by◌ flag present nothing number no_number
stamp-norm-is s = go s.extension.present refl
  where
    go : (b : Bool) → s.extension.present ≡ b → stamp.norm s ≡ record { dtg = s.dtg; extension = number_image (option_of s.extension) }
    go true e = rw e
    go false e = rw e

pub stamp-image : (k : DeclaredKey) → stamp_image (key_of k) ≡ stamp.norm k.stamp
unfolding key_of
stamp-image k = sym (stamp-norm-is k.stamp)

pub key-image-legal : (k : DeclaredKey) → key_fault k ≡ 0 → key_fault (key_image (key_of k)) ≡ 0
unfolding key_image key_of first
key-image-legal k h =
    let f = first-zero (address.check k.address) (stamp.check k.stamp) h in
    let a : address.check (address_image (address_of k.address)) ≡ 0 = address-image-legal k.address f.0 in
    let s : stamp.check (stamp_image (key_of k)) ≡ 0 = ap stamp.check (stamp-image k) ∙ stamp-lawful.judged k.stamp ∙ f.1 in
    ap (λ (n : ℕ). first n (stamp.check (stamp_image (key_of k)))) a ∙ s

-- ---- the declared type

pub urn-typed : (n : ℕ) → n < 4294967296 → TypedAddress (address_image (urn n))
unfolding address_image no_optional_text
urn-typed n h = record { urn = record { value = h }; name = record { text = record { chars = refl; len = lit< tt } } }

pub name_typed : (s : List ℕ) → length s ≤ 64 → TypedAddress (address_image (name s))
unfolding address_image no_number
name_typed s h =
    let l : length (zeros (64 - length s)) ≡ 64 - length s = length-replicate (64 - length s) 0 in
    let e : length (s ++ zeros (64 - length s)) ≡ 64 = simp length-append (omega arith) in
    record { urn = record { value = lit< tt }; name = record { text = record { chars = e; len = omega arith } } }

pub blank-typed : (w : Address) → TypedAddress (address_image w) → TypedRecipient (recipient_image (w, blank))
unfolding recipient_image
blank-typed w h = record { address = h; machine = lit< tt; acknowledge = lit< tt; reply = lit< tt }

pub none-typed : TypedRecipient no_recipient
unfolding no_recipient no_address no_number no_optional_text
none-typed =
    record {
      address = record { urn = record { value = lit< tt }; name = record { text = record { chars = refl; len = lit< tt } } };
      machine = lit< tt;
      acknowledge = lit< tt;
      reply = lit< tt;
    }

nones-typed : (n : ℕ) → Each TypedRecipient (replicate n no_recipient)
nones-typed zero = tt
nones-typed (suc n) = (none-typed, nones-typed n)

each_append : {A : Type 0} (P : A → Type 0) (l m : List A) → Each P l → Each P m → Each P (l ++ m)
each_append P [] m g h = h
each_append P (x ∷ l) m g h = (g.0, each_append P l m g.1 h)

pub recipients-typed : (l : List (Address × Mark)) → length l ≤ 16 → Each TypedRecipient (map recipient_image l) → (length (recipients_image l) ≡ 16) × Each TypedRecipient (recipients_image l)
recipients-typed l h g =
    let m : length (map recipient_image l) ≡ length l = length-map l recipient_image in
    let r : length (replicate (16 - length l) no_recipient) ≡ 16 - length l = length-replicate (16 - length l) no_recipient in
    let e : length (recipients_image l) ≡ 16 = simp length-append (omega arith) in
    (e, each_append TypedRecipient (map recipient_image l) (replicate (16 - length l) no_recipient) g (nones-typed (16 - length l)))

pub row-typed : (x : Key × Row) → TypedKey (key_image x.0) → length x.1.1 ≤ 16 → Each TypedRecipient (map recipient_image x.1.1) → TypedRow (row_image x)
unfolding row_image
row-typed x k h g = record { key = k; recipients = recipients-typed x.1.1 h g; count = omega arith }

pub recipients-long : (l : List Recipient) → Each TypedRecipient l → Long recipient_octets 92 l
recipients-long [] h = tt
recipients-long (x ∷ l) h = (recipient-long x h.0, recipients-long l h.1)

-- ---- an unused cell is all zeros

pub none-octets : recipient_octets no_recipient ≡ zeros 92
unfolding recipient_octets no_recipient address_octets no_address optional_number_octets no_number optional_text_octets no_optional_text text_octets word_octets flag_octets mark_octets
none-octets = refl
