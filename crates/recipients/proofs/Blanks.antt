-- Recipients without codes: what putting one in makes of them, and a new row's octets. Assumes nothing.
use Prim.Native.Nat.{ℕ, zero, suc, ◌+◌, ◌-◌, ◌*◌, ◌<◌, ◌≤◌}
use mathlib.Core.Path.{◌≡◌, refl, ap, sym, ◌∙◌}
use mathlib.Core.Bool.{Bool, true, false}
use mathlib.Core.List.{List, [], ◌∷◌, ◌++◌, map, append_assoc}
use mathlib.Core.Option.{some}
use lib.ListN.{length, take, drop, get_or, replicate, length-map, length-append, length-take, length-drop, length-replicate, replicate-append-replicate, drop_of_length-le}
use lib.Seq.{drop-cons, get_or-take, length-take-le, take_at}
use native.Mathlib.Numerals.{add-one}
use native.Mathlib.Omega.{arith}
use Rattle.cells.specs.Cells.{zeros, word_octets, inserted_at, many, many_octets, Each}
use Rattle.cells.proofs.Parts.{many-back}
use Rattle.cells.proofs.Inserted.{octets-inserted}
use Rattle.record_octets.specs.Record.{address_octets, requests_octets}
use Rattle.codec.specs.Codec.{viewed}
use Rattle.codec.proofs.ListEnds.{count_most}
use Rattle.header.specs.Zero.{no_address}
use Rattle.header.specs.Table.{address, addresses}
use Rattle.header.specs.declared.Address.{Address as DeclaredAddress}
use Rattle.header.specs.declared.Addresses.{Addresses}
use Rattle.header.specs.declared.Requests.{Requests}
use Rattle.calls.specs.Keyed.{put, sort}
use Rattle.order.specs.Values.{Address, address_of, by_address, Key}
use Rattle.order.specs.Requests.{Mark, blank, ask_of}
use Rattle.order.specs.Calls.{make}
use Rattle.order.proofs.Orders.{by-address}
use Rattle.table.specs.Search.{Stopped}
use Rattle.table.specs.Zero.{no_recipient}
use Rattle.table.specs.declared.Recipient.{Recipient}
use Rattle.table.proofs.Search.{stopped-next, held-inside}
use Rattle.table.proofs.Moves.{put-inserts}
use Rattle.table_octets.specs.Table.{key_octets, recipient_in, recipient_octets, row_octets}
use Rattle.table_octets.specs.Typed.{TypedRecipient}
use Rattle.table_octets.specs.Image.{address_image, key_image, recipient_image, recipients_image, row_image}
use Rattle.table_octets.proofs.Back.{recipient-long, recipient-back}
use Rattle.table_octets.proofs.Images.{address-of-image, recipients-typed, recipients-long, none-typed, none-octets}
use Rattle.recipients.specs.Holds.{Holds}

-- ---- lists

pub map-id : {A : Type 0} (l : List A) → map (λ (x : A). x) l ≡ l
map-id [] = refl
map-id {A} (x ∷ l) = ap (λ (r : List A). x ∷ r) (map-id l)

pub map-map : {A B C : Type 0} (f : B → C) (g : A → B) (l : List A) → map f (map g l) ≡ map (λ (x : A). f (g x)) l
map-map f g [] = refl
map-map {C = C} f g (x ∷ l) = ap (λ (r : List C). f (g x) ∷ r) (map-map f g l)

map-inserted : {A B : Type 0} (f : A → B) (n : ℕ) (x : A) (l : List A) → map f (take n l ++ x ∷ drop n l) ≡ take n (map f l) ++ f x ∷ drop n (map f l)
map-inserted f zero x l = refl
map-inserted f (suc n) x [] = refl
map-inserted {B = B} f (suc n) x (y ∷ l) = ap (λ (r : List B). f y ∷ r) (map-inserted f n x l)

each-inserted : {A : Type 0} (P : A → Type 0) (n : ℕ) (x : A) (l : List A) → P x → Each P l → Each P (take n l ++ x ∷ drop n l)
each-inserted P zero x l h g = (h, g)
each-inserted P (suc n) x [] h g = (h, tt)
each-inserted P (suc n) x (y ∷ l) h g = (g.0, each-inserted P n x l h g.1)

-- ---- a recipient without codes

pub blank-octets : (l : List ℕ) (w : Address) → l ≡ address_octets (address_image w) ++ zeros 12 → l ≡ recipient_octets (recipient_image (w, blank))
unfolding recipient_octets recipient_image word_octets
blank-octets l w e =
    let a : List ℕ = address_octets (address_image w) in
    e ∙ sym (append_assoc (a ++ word_octets 0) (word_octets 0) (word_octets 0) ∙ append_assoc a (word_octets 0) (word_octets 0 ++ word_octets 0))

-- ---- what a search finds among them

pub addresses-of-images : (l : List (Address × Mark)) → map (λ (x : Recipient). address_of x.address) (map recipient_image l) ≡ map (λ (x : Address × Mark). x.0) l
unfolding recipient_image
addresses-of-images [] = refl
addresses-of-images (x ∷ l) = λ i. address-of-image x.0 i ∷ addresses-of-images l i

-- one that is held stays, for it has no codes
stays : (w : Address) (l : List (Address × Mark)) (at : ℕ) → Stopped by_address w (map (λ (x : Address × Mark). x.0) l) at true → Each (λ (x : Address × Mark). x.1 ≡ blank) l → put by_address w (some blank) l ≡ l
unfolding put
stays w [] at q g = absurd (held-inside at q)
stays w (x ∷ l) zero q g =
    let e = q.same w refl in
    rw e (λ i. (by-address.eq→ w x.0 e i, sym g.0 i) ∷ l)
stays w (x ∷ l) (suc at) q g = rw (q.behind w 0 (omega arith)) (ap (λ (r : List (Address × Mark)). x ∷ r) (stays w l at (stopped-next _ _ at true q) g.1))

-- one that is not goes where the search stopped
goes_in : (w : Address) (l : List (Address × Mark)) (at : ℕ) → Stopped by_address w (map (λ (x : Address × Mark). x.0) l) at false → put by_address w (some blank) l ≡ take at l ++ (w, blank) ∷ drop at l
goes_in w l at q =
    ap (put by_address w (some blank)) (sym (map-id l)) ∙ put-inserts (λ (x : Address × Mark). x) (w, blank) l at q ∙ map-id (take at l ++ (w, blank) ∷ drop at l)

module _ (l : List (Address × Mark)) (n : ℕ) (s : List ℕ) (h : Holds l n s) where
  used-are : take n (many recipient_in 92 16 s) ≡ map recipient_image l
  used-are =
      let t = recipients-typed l (rw h.count h.few) h.typed in
      let b : many recipient_in 92 16 (many_octets recipient_octets (recipients_image l)) ≡ recipients_image l = many-back recipient_in recipient_octets TypedRecipient 92 recipient-long recipient-back (recipients_image l) 16 t.0 t.1 in
      ap (λ (z : List ℕ). take n (many recipient_in 92 16 z)) h.is ∙ ap (take n) b ∙ take_at (map recipient_image l) (replicate (16 - length l) no_recipient) n (length-map l recipient_image ∙ h.count)

  addresses-are : map (λ (x : Recipient). address_of x.address) (take n (many recipient_in 92 16 s)) ≡ map (λ (x : Address × Mark). x.0) l
  addresses-are = ap (map (λ (x : Recipient). address_of x.address)) used-are ∙ addresses-of-images l

  module _ (w : Address) (at : ℕ) where
    -- one that is held has no codes already
    pub put-held : (b : Bool) → b ≡ true → Stopped by_address w (map (λ (x : Recipient). address_of x.address) (take n (many recipient_in 92 16 s))) at b → Holds (put by_address w (some blank) l) n s
    put-held b e p =
        let q : Stopped by_address w (map (λ (x : Address × Mark). x.0) l) at true = rw (← addresses-are, ← e) p in
        let same : put by_address w (some blank) l ≡ l = stays w l at q h.blanks in
        rw same h

    pub put-new : (s' : List ℕ) (b : Bool) → b ≡ false → Stopped by_address w (map (λ (x : Recipient). address_of x.address) (take n (many recipient_in 92 16 s))) at b → n < 16 → at ≤ n
        → TypedRecipient (recipient_image (w, blank)) → s' ≡ inserted_at 92 n at (recipient_octets (recipient_image (w, blank))) s → Holds (put by_address w (some blank) l) (n + 1) s'
    put-new s' b e p few m t i =
        let q : Stopped by_address w (map (λ (x : Address × Mark). x.0) l) at false = rw (← addresses-are, ← e) p in
        let x : Recipient = recipient_image (w, blank) in
        let y : List (Address × Mark) = take at l ++ (w, blank) ∷ drop at l in
        let z : List Recipient = map recipient_image l in
        let free : List Recipient = replicate (16 - (n + 1)) no_recipient in
        let c : length l ≡ n = h.count in
        let lz : length z ≡ n = length-map l recipient_image ∙ c in
        let la : length (take at l) ≡ at = length-take-le at l (omega arith) in
        let ld : length (drop at l) ≡ length l - at = length-drop at l in
        let ly : length y ≡ n + 1 = simp length-append (omega arith) in
        let k : 16 - length l ≡ suc (16 - (n + 1)) = omega arith in
        let k2 : 16 - (n + 1) ≡ 16 - length y = omega arith in
        let ins : map recipient_image y ≡ take at z ++ x ∷ drop at z = map-inserted recipient_image at (w, blank) l in
        let is : s' ≡ many_octets recipient_octets (recipients_image y) =
        i ∙ ap (inserted_at 92 n at (recipient_octets x)) (h.is ∙ ap (λ (j : ℕ). many_octets recipient_octets (z ++ replicate j no_recipient)) k)
        ∙ ap (λ (j : ℕ). inserted_at 92 j at (recipient_octets x) (many_octets recipient_octets (z ++ no_recipient ∷ free))) (sym lz)
        ∙ octets-inserted recipient_octets 92 z free at x no_recipient (omega arith) (recipients-long z h.typed) (recipient-long no_recipient none-typed)
        ∙ ap (λ (r : List Recipient). many_octets recipient_octets (r ++ free)) (sym ins)
        ∙ ap (λ (j : ℕ). many_octets recipient_octets (map recipient_image y ++ replicate j no_recipient)) k2 in
        let ty : Each TypedRecipient (take at z ++ x ∷ drop at z) = each-inserted TypedRecipient at x z t h.typed in
        rw (goes_in w l at q)
        (record {
          count = ly;
          few = omega arith;
          is = is;
          typed = rw ins ty;
          blanks = each-inserted (λ (r : Address × Mark). r.1 ≡ blank) at (w, blank) l refl h.blanks;
        })

-- ---- a list of addresses, from the last to the first

nones : (k : ℕ) → many_octets recipient_octets (replicate k no_recipient) ≡ zeros (k * 92)
unfolding many_octets
nones zero = refl
nones (suc k) =
    let e : 92 + k * 92 ≡ suc k * 92 = omega arith in
    ap (λ (r : List ℕ). r ++ many_octets recipient_octets (replicate k no_recipient)) none-octets ∙ ap (λ (r : List ℕ). zeros 92 ++ r) (nones k)
    ∙ replicate-append-replicate 92 (k * 92) 0 ∙ ap zeros e

-- the addresses from i on are in
pub record Filling (n : ℕ) (l : List DeclaredAddress) (i k : ℕ) (s : List ℕ) : Type 0 where
  pub within : i ≤ n
  pub few : k + i ≤ n
  pub long : length s ≡ 1472
  pub holds : Holds (sort by_address (map (λ (a : DeclaredAddress). (address_of a, blank)) (drop i (take n l)))) k s

module _ (n : ℕ) (l : List DeclaredAddress) where
  pub filling-none : (s : List ℕ) (k c : ℕ) → s ≡ zeros k → k ≡ 1472 → c ≡ n → Filling n l c 0 s
  unfolding sort
  filling-none s k c e h q =
      let z : drop c (take n l) ≡ [] = drop_of_length-le (take n l) {i = c} (rw length-take (omega arith)) in
      record {
        within = omega arith;
        few = omega arith;
        long = ap length e ∙ length-replicate k 0 ∙ h;
        holds = rw z (record { count = refl; few = omega arith; is = e ∙ ap zeros h ∙ sym (nones 16); typed = tt; blanks = tt });
      }

  pub filling-more : (i j k m : ℕ) (d : DeclaredAddress) (a : DeclaredAddress) (s s' : List ℕ) → n ≤ length l → 0 < i → j ≡ i - 1 → Filling n l i k s → a ≡ get_or l j d
      → length s' ≡ 1472 → m ≤ k + 1 → ((r : List (Address × Mark)) → Holds r k s → Holds (put by_address (address_of a) (some blank) r) m s') → Filling n l j m s'
  unfolding sort
  filling-more i j k m d a s s' h p e f q g c put =
      let inside : i ≤ n = f.within in
      let few : k + i ≤ n = f.few in
      let lt : length (take n l) ≡ n = length-take-le n l h in
      let u : j + 1 ≡ i = omega arith in
      let v : drop j (take n l) ≡ a ∷ drop i (take n l) =
      drop-cons (take n l) j d (omega arith) ∙ rw (← add-one, u, get_or-take n l j d (omega arith), q) in
      record {
        within = omega arith;
        few = omega arith;
        long = g;
        holds = rw v (put _ f.holds);
      }

  pub filling-all : (i k : ℕ) (s : List ℕ) → Filling n l i k s → i ≡ 0 → (k ≤ n) × Holds (sort by_address (map (λ (a : DeclaredAddress). (address_of a, blank)) (take n l))) k s
  filling-all i k s f e = let few : k + i ≤ n = f.few in let holds = f.holds in (omega arith, rw e at holds)

-- a legal list has at most 16
pub most : (to : Addresses) → (addresses 15).check to ≡ 0 → to.count ≤ 16
unfolding addresses viewed
most to h = count_most no_address address 16 15 to.list to.count h

-- ---- a new row

-- with the octets of the key's image these are the octets of the new row's image
pub new-row-is : (k : Key) (asked : Requests) (to : List DeclaredAddress) (l : List (Address × Mark)) → l ≡ sort by_address (map (λ (a : DeclaredAddress). (address_of a, blank)) to)
    → key_octets (key_image k) ++ requests_octets asked ++ zeros 1 ++ many_octets recipient_octets (recipients_image l) ++ word_octets (length l) ≡ row_octets (row_image (k, make (ask_of asked) (map address_of to)))
unfolding row_octets row_image make ask_of
new-row-is k asked to l e = rw (map-map {C = Address × Mark} (λ (w : Address). (w, blank)) address_of to, ← e)
