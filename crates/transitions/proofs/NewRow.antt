-- The image of a posting's row is a fine row. Assumes nothing.
use Prim.Native.Nat.{ℕ, zero, suc, ◌-◌, ◌<◌, ◌≤◌, Ordering}
use mathlib.Core.Path.{◌≡◌, refl, ap, sym, subst, ◌∙◌}
use mathlib.Core.Bool.{Bool, true}
use mathlib.Core.List.{List, [], ◌∷◌, map, map-map}
use mathlib.Core.Option.{some}
use lib.ListN.{length, take, get_or, length-map, length-take, replicate}
use lib.Seq.{take_at}
use lib.Dec.{lit≤}
use native.Mathlib.Omega.{arith}
use Rattle.codec.specs.Codec.{viewed}
use Rattle.codec.proofs.ListEnds.{whole-array, count_most, entry-legal}
use Rattle.header.specs.Rules.{all}
use Rattle.header.specs.Table.{address, addresses}
use Rattle.header.specs.Zero.{no_address}
use Rattle.header.specs.declared.Address.{Address as DeclaredAddress}
use Rattle.header.specs.declared.Addresses.{Addresses}
use Rattle.header.specs.declared.Requests.{Requests}
use Rattle.calls.specs.Keyed.{put, sort}
use Rattle.calls.proofs.Orders.{cases}
use Rattle.calls.proofs.Keyed.{length-sort}
use Rattle.order.specs.Values.{Address, address_of, by_address, Key, key_of}
use Rattle.order.specs.Requests.{Mark, blank, ask_of}
use Rattle.order.specs.Calls.{Row as Cells, make}
use Rattle.order.specs.declared.Key.{Key as DeclaredKey}
use Rattle.order.proofs.Orders.{by-address}
use Rattle.order.proofs.Requests.{blank-well}
use Rattle.cells.specs.Cells.{Each}
use Rattle.table.specs.Rows.{mark_of, recipient_of, used_recipients}
use Rattle.table.specs.WellFormed.{recipient_fine}
use Rattle.table.specs.Zero.{no_recipient}
use Rattle.table_octets.specs.Image.{key_image, recipient_image, recipients_image, row_image}
use Rattle.table_octets.specs.Typed.{TypedKey, TypedRecipient, TypedRow}
use Rattle.table_octets.proofs.Images.{Coded, image-of-ask, recipient-of-image, row-of-image, address-image-legal, row-typed}
use Rattle.recipients.specs.Holds.{blanks_of}
use Rattle.transitions.proofs.Marks.{well-recipient}

-- ---- what each entry has, each has in order

module _ {K W : Type 0} (cmp : K → K → Ordering) (P : K × W → Type 0) where
  each-put : (k : K) (v : W) (l : List (K × W)) → P (k, v) → Each P l → Each P (put cmp k (some v) l)
  unfolding put
  each-put k v [] p e = (p, tt)
  each-put k v (x ∷ l) p e =
      cases (cmp k x.0)
      (λ c. rw c (p, e))
      (λ c. rw c (p, e.1))
      (λ c. rw c (e.0, each-put k v l p e.1))

  each-sort : (l : List (K × W)) → Each P l → Each P (sort cmp l)
  unfolding sort
  each-sort [] e = tt
  each-sort (x ∷ l) e = each-put x.0 x.1 (sort cmp l) e.0 (each-sort l e.1)

each_map : {A B : Type 0} (P : B → Type 0) (f : A → B) (l : List A) → Each (λ (x : A). P (f x)) l → Each P (map f l)
each_map P f [] e = tt
each_map P f (x ∷ l) e = (e.0, each_map P f l e.1)

each_of : {A : Type 0} (P : A → Type 0) (l : List A) (d : A) (n : ℕ) → n ≤ length l → ((i : ℕ) → i < n → P (get_or l i d)) → Each P (take n l)
each_of P l d zero h f = tt
each_of P [] d (suc n) h f = absurd (omega arith)
each_of P (x ∷ l) d (suc n) h f = (f 0 (omega arith), each_of P l d n (omega arith) (λ i p. f (suc i) (omega arith)))

each_all : {A B : Type 0} (f : B → Bool) (g : A → B) (l : List A) → Each (λ (x : A). f (g x) ≡ true) l → all f (map g l) ≡ true
unfolding all
each_all f g [] e = refl
each_all f g (x ∷ l) e = rw (e.0, each_all f g l e.1)

each_both : {A : Type 0} (P Q : A → Type 0) (l : List A) → Each (λ (x : A). P x × Q x) l → Each P l × Each Q l
each_both P Q [] e = (tt, tt)
each_both P Q (x ∷ l) e = let r = each_both P Q l e.1 in ((e.0.0, r.0), (e.0.1, r.1))

-- ---- a recipient without codes

blank-coded : (w : Address) → Coded (w, blank)
blank-coded w = (λ e. let z : ◌≡◌ {A = ℕ} 0 1 = cc in absurd (omega arith), λ e. let z : ◌≡◌ {A = ℕ} 0 1 = cc in absurd (omega arith), λ e. let z : ◌≡◌ {A = ℕ} 0 1 = cc in absurd (omega arith))

blank-fine : (q : Requests) (a : DeclaredAddress) → address.check a ≡ 0 → recipient_fine q (recipient_image (address_of a, blank)) ≡ true
unfolding recipient_image
blank-fine q a h =
    let m : mark_of (recipient_image (address_of a, blank)) ≡ blank = ap (λ (x : Address × Mark). x.1) (recipient-of-image (address_of a, blank) (blank-coded (address_of a))) in
    well-recipient q (recipient_image (address_of a, blank)) (address-image-legal a h) (rw m (blank-well (ask_of q)))

-- ---- the row

module _ (k : DeclaredKey) (a : Requests) (to : Addresses) (legal : (addresses 15).check to ≡ 0) where
  abbrev here : List DeclaredAddress
  here = take to.count to.list

  abbrev pub made : Key × Cells
  made = (key_of k, make (ask_of a) (map address_of here))

  abbrev Fine : Address × Mark → Type 0
  Fine x = Coded x × (recipient_fine a (recipient_image x) ≡ true)

  each : Each Fine made.1.1
  unfolding make addresses viewed
  each =
      each-sort by_address Fine (map (λ r. (r, blank)) (map address_of here))
      (each_map Fine (λ r. (r, blank)) (map address_of here)
      (each_map (λ (r : Address). Fine (r, blank)) address_of here
      (each_of (λ (x : DeclaredAddress). Fine (address_of x, blank)) to.list no_address to.count (omega (arith, count_most no_address address 16 15 to.list to.count legal, whole-array no_address address 16 15 to.list to.count legal))
      (λ i p. (blank-coded (address_of (get_or to.list i no_address)), blank-fine a (get_or to.list i no_address) (entry-legal no_address address 16 15 to.list to.count legal (lit≤ tt) i no_address p))))))

  coded : Each Coded made.1.1
  coded = (each_both Coded (λ (x : Address × Mark). recipient_fine a (recipient_image x) ≡ true) made.1.1 each).0

  pub made-asked : (row_image made).asked ≡ a
  unfolding row_image make
  made-asked = image-of-ask a

  pub made-few : (row_image made).count ≤ to.count
  unfolding row_image make
  made-few =
      let n : length {A = Address × Mark} (map (λ r. (r, blank)) (map address_of here)) ≡ length here = length-map (map address_of here) (λ r. (r, blank)) ∙ length-map here address_of in
      omega (arith, n, length-sort by-address (map (λ r. (r, blank)) (map address_of here)), length-take to.count to.list)

  pub made-key : key_image (key_of k) ≡ k → (row_image made).key ≡ k
  unfolding row_image
  made-key e = e

  pub made-recipients : map recipient_of (used_recipients (row_image made)) ≡ sort by_address (map (λ x. (address_of x, blank)) here)
  unfolding make
  made-recipients = ap (λ (x : Key × Cells). x.1.1) (row-of-image made coded) ∙ ap (sort by_address) (map-map (λ r. (r, blank)) address_of here)

  pub made-fine : all (recipient_fine a) (used_recipients (row_image made)) ≡ true
  unfolding row_image
  made-fine =
      let l : List (Address × Mark) = made.1.1 in
      let u : take (length l) (recipients_image l) ≡ map recipient_image l = take_at (map recipient_image l) (replicate (16 - length l) no_recipient) (length l) (length-map l recipient_image) in
      ap (all (recipient_fine a)) u ∙ each_all (recipient_fine a) recipient_image l (each_both Coded (λ (x : Address × Mark). recipient_fine a (recipient_image x) ≡ true) l each).1

-- ---- as the code makes it

-- of the recipients that were put in
pub made-typed : (k : Key) (a : Requests) (to : Addresses) → TypedKey (key_image k) → length (blanks_of to) ≤ to.count → (addresses 15).check to ≡ 0 → Each TypedRecipient (map recipient_image (blanks_of to))
    → TypedRow (row_image (k, make (ask_of a) (map address_of (take to.count to.list))))
unfolding make addresses viewed
made-typed k a to key few legal each =
    let here : List DeclaredAddress = take to.count to.list in
    let e : sort by_address (map (λ r. (r, blank)) (map address_of here)) ≡ blanks_of to = ap (sort by_address) (map-map (λ r. (r, blank)) address_of here) in
    let m : to.count ≤ 16 = count_most no_address address 16 15 to.list to.count legal in
    let n : length (sort by_address (map (λ r. (r, blank)) (map address_of here))) ≡ length (blanks_of to) = ap length e in
    row-typed (k, make (ask_of a) (map address_of here)) key (omega (arith, few, m, n)) (subst (λ (l : List (Address × Mark)). Each TypedRecipient (map recipient_image l)) (sym e) each)
