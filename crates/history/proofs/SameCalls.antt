-- Records that are the same, as document 01 has it, whatever their unused cells hold, make the same call, for every block number and count of user data; and so do
-- keys that are the same. Assumes nothing.
use Prim.Native.Nat.{ℕ, zero, suc, ◌<◌, ◌≤◌}
use mathlib.Core.Path.{◌≡◌, refl, ap, ap₂, sym, ◌∙◌}
use mathlib.Core.Bool.{Bool, true, ◌&&◌}
use mathlib.Core.Logic.{inl, inr}
use mathlib.Core.List.{List, ◌∷◌, map, Forall₂}
use lib.ListN.{length, take, get_or, length-take}
use lib.Seq.{get_or-take, length-take-le}
use lib.Dec.{leb, eqb, lit<, lit≤}
use borrow.Author.Tests.{leb-true, eqb-true}
use native.Mathlib.Omega.{arith}
use Rattle.codec.specs.Answer.{pick}
use Rattle.codec.specs.Codec.{first, viewed}
use Rattle.codec.proofs.Fields.{and_left, and_right}
use Rattle.codec.proofs.Sequences.{first-zero, first-same}
use Rattle.codec.proofs.ListLaws.{fine-legal}
use Rattle.codec.proofs.ListEnds.{whole-array, count_most, entry-legal}
use Rattle.header.specs.Zero.{no_address, no_block}
use Rattle.header.specs.Table.{address, addresses, front, stamp, block, blocks}
use Rattle.header.specs.Same.{same_address, same_addresses, same_optional_address, same_optional_addresses, same_front, same_optional_stamp, same_optional_requests, same_times, same_compliance, same_response, same_optional_response, same_block, same_blocks, Same}
use Rattle.header.specs.declared.Address.{Address as DeclaredAddress}
use Rattle.header.specs.declared.Block.{Block}
use Rattle.header.specs.declared.Header.{Header}
use Rattle.header.proofs.Legal.{front-recipients, addressees-legal}
use Rattle.codec.specs.Verdict.{Verdict, plain, whether, first_of}
use Rattle.writer.specs.Writing.{fields_fault}
use Rattle.writer.proofs.Valid.{valid-parts}
use Rattle.roundtrip.proofs.SameRecords.{same-fault}
use Rattle.order.specs.Values.{address_of, key_of, key_fault}
use Rattle.calls.specs.Operations.{post, receipt, release}
use Rattle.order.specs.Calls.{Operation, Call, make}
use Rattle.order.specs.Requests.{any_of, ask_of}
use Rattle.order.specs.declared.Key.{Key as DeclaredKey}
use Rattle.arguments.specs.Arguments.{posting, receiving, releasing, has_block, block_at, asks, recipients_of, some_recipient, one_recipient, first_recipient, posting_key, receipt_key, posting_fault, receipt_fault, named, call_of}
use Rattle.arguments.proofs.Legal.{front-originator}
use Rattle.arguments.proofs.Names.{Posts, posts, Answers, answers}
use Rattle.history.specs.SameTable.{same_key}
use Rattle.history.proofs.SameKeys.{and_same, key-check, address_same, key-same}

-- ---- plain facts

-- two refusals that agree, and behind them two that agree where there is none
refusals-same : (f f' g g' : ℕ) → f ≡ f' → (f ≡ 0 → g ≡ g') → first f g ≡ first f' g'
refusals-same f f' g g' e h = first-same f g g' h ∙ ap (λ (k : ℕ). first k g') e

-- the same where the first may tell a block
verdicts-same : (f f' : Verdict) (g g' : ℕ) → f ≡ f' → (f.number ≡ 0 → g ≡ g') → first_of f (plain g) ≡ first_of f' (plain g')
unfolding first_of
verdicts-same f f' g g' e h = go f.number h ∙ ap (λ (v : Verdict). first_of v (plain g')) e
  where
    go : (n : ℕ) → (n ≡ 0 → g ≡ g') → whether n (plain g) f ≡ whether n (plain g') f
    go zero k = ap plain (k refl)
    go (suc n) k = refl

-- two tests' refusals
tests_same : (b c : Bool) (f : ℕ) → b ≡ c → pick b 0 f ≡ pick c 0 f
tests_same b c f e = ap (λ (x : Bool). pick x 0 f) e

entry-same : {A : Type 0} {S : A → A → Type 0} {xs ys : List A} → Forall₂ S xs ys → (i : ℕ) (d : A) → i < length xs → S (get_or xs i d) (get_or ys i d)
entry-same Forall₂.nil i d l = absurd (omega arith)
entry-same (Forall₂.cons s r) zero d l = s
entry-same (Forall₂.cons s r) (suc i) d l = entry-same r i d (omega arith)

-- an entry within the counts of arrays that hold the same list
cell_same : {A : Type 0} (S : A → A → Type 0) (l m : List A) (j k i : ℕ) (d : A) → j ≡ k → j ≤ length l → i < j → Forall₂ S (take j l) (take k m) → S (get_or l i d) (get_or m i d)
cell_same S l m j k i d e h p r =
    let s : S (get_or (take j l) i d) (get_or (take k m) i d) = entry-same r i d (rw (length-take-le j l h) p) in
    let a : get_or (take j l) i d ≡ get_or l i d = get_or-take j l i d p in
    let b : get_or (take k m) i d ≡ get_or m i d = get_or-take k m i d (omega arith) in
    rw (a, b) at s

-- ---- a legal record's arrays

module _ (h : Header) (f : fields_fault h ≡ 0) where
  front-legal : front.check h.front ≡ 0
  front-legal = (first-zero (front.check h.front) _ f).0

  blocks-fit : h.blocks.count ≤ length h.blocks.list
  unfolding blocks viewed
  blocks-fit =
      let g = (first-zero (front.check h.front) ((blocks h.front.version).check h.blocks) f).1 in
      omega (arith, whole-array no_block (block h.front.version) 16 15 h.blocks.list h.blocks.count g, count_most no_block (block h.front.version) 16 15 h.blocks.list h.blocks.count g)

  from-legal : h.front.originator.present ≡ true → address.check h.front.originator.address ≡ 0
  from-legal = front-originator h.front front-legal

  module _ (e : h.front.recipients.present ≡ true) where
    list-legal : (addresses 15).check h.front.recipients.addresses ≡ 0
    list-legal = addressees-legal h.front.recipients e (front-recipients h.front front-legal)

    recipients-fit : h.front.recipients.addresses.count ≤ length h.front.recipients.addresses.list
    unfolding addresses viewed
    recipients-fit =
        let l = h.front.recipients.addresses.list in
        let k = h.front.recipients.addresses.count in
        omega (arith, whole-array no_address address 16 15 l k list-legal, count_most no_address address 16 15 l k list-legal)

    recipient-legal : (i : ℕ) → i < h.front.recipients.addresses.count → address.check (get_or h.front.recipients.addresses.list i no_address) ≡ 0
    unfolding addresses viewed
    recipient-legal i l = entry-legal no_address address 16 15 h.front.recipients.addresses.list h.front.recipients.addresses.count list-legal (lit≤ tt) i no_address l

-- legal addresses, one by one the same
addresses-same : {xs ys : List DeclaredAddress} → Forall₂ same_address xs ys → ((i : ℕ) → i < length xs → address.check (get_or xs i no_address) ≡ 0) → map address_of xs ≡ map address_of ys
addresses-same Forall₂.nil h = refl
addresses-same (Forall₂.cons {a = x} {b = y} s r) h = ap₂ ◌∷◌ (address_same x y s (h 0 (omega arith))) (addresses-same r (λ i l. h (suc i) (omega arith)))

-- ---- calls

named-same : (f f' : Verdict) (d d' : Operation) → f ≡ f' → (f.number ≡ 0 → d ≡ d') → named f d ≡ named f' d'
named-same f f' d d' e h = go f.number h ∙ ap (λ (v : Verdict). named v d') e
  where
    go : (n : ℕ) → (n ≡ 0 → d ≡ d') → ◌≡◌ {A = Call} (whether n (inr d) (inl f)) (whether n (inr d') (inl f))
    go zero g = ap inr (g refl)
    go (suc n) g = refl

fine : (b : Bool) (f : ℕ) → 0 < f → pick b 0 f ≡ 0 → b ≡ true
fine b f l e = (fine-legal b 0 f l e).0

asks-same : (b c : Block) → same_block b c → asks b ≡ asks c
unfolding same_block same_times same_optional_requests
asks-same b c s =
    let r = s.0.1.1.1.1 in
    and_same b.times.requests.present c.times.requests.present _ _ r.0 (λ e. ap (λ q. any_of (ask_of q)) (r.1 e))

response-same : (b c : Block) → same_block b c → b.response.present ≡ c.response.present
unfolding same_block same_optional_response
response-same b c s = s.1.0.0

legal-key : (k : DeclaredKey) → address.check k.address ≡ 0 → stamp.check k.stamp ≡ 0 → key_fault k ≡ 0
unfolding first
legal-key k a b = rw (a, b)

module _ (x y : Header) (s : Same x y) where
  has_same : (n : ℕ) → has_block x n ≡ has_block y n
  unfolding Same same_blocks
  has_same n = ap (λ (k : ℕ). leb 1 n && leb n k) s.1.1.1.0

  -- the block that is looked at
  block_same : fields_fault x ≡ 0 → (n : ℕ) → has_block x n ≡ true → same_block (block_at x n) (block_at y n)
  unfolding Same same_blocks block_at
  block_same f zero e = let z : ◌≡◌ {A = ℕ} 0 1 = cc in absurd (omega arith)
  block_same f (suc i) e =
      let l = leb-true (suc i) x.blocks.count (and_right (leb 1 (suc i)) (leb (suc i) x.blocks.count) e) in
      cell_same same_block x.blocks.list y.blocks.list x.blocks.count y.blocks.count i no_block s.1.1.1.0 (blocks-fit x f) (omega (arith, l)) s.1.1.1.1

  -- the addresses in front
  from-same : same_optional_address x.front.originator y.front.originator
  unfolding Same same_front
  from-same = s.0.0.1.1

  to_same : same_optional_addresses x.front.recipients y.front.recipients
  unfolding Same same_front
  to_same = s.0.1.0

  from-there : x.front.originator.present ≡ y.front.originator.present
  unfolding same_optional_address
  from-there = from-same.0

  from-address : x.front.originator.present ≡ true → same_address x.front.originator.address y.front.originator.address
  unfolding same_optional_address
  from-address e = from-same.1 e

  some_same : some_recipient x ≡ some_recipient y
  unfolding same_optional_addresses same_addresses
  some_same = and_same x.front.recipients.present y.front.recipients.present _ _ to_same.0 (λ e. ap (λ (k : ℕ). leb 1 k) (to_same.1 e).1.0)

  one_same : one_recipient x ≡ one_recipient y
  unfolding same_optional_addresses same_addresses
  one_same = and_same x.front.recipients.present y.front.recipients.present _ _ to_same.0 (λ e. ap (λ (k : ℕ). eqb k 1) (to_same.1 e).1.0)

  module _ (n count : ℕ) where
    posting-fault-same : posting_fault x n count ≡ posting_fault y n count
    unfolding posting_fault
    posting-fault-same =
        verdicts-same _ _ _ _ (same-fault x y s count) (λ z.
        refusals-same _ _ _ _ (tests_same (has_block x n) (has_block y n) 29 (has_same n)) (λ t.
        let b = block_same (valid-parts x count z).fields n (fine (has_block x n) 29 (lit< tt) t) in
        refusals-same _ _ _ _ (tests_same (asks (block_at x n)) (asks (block_at y n)) 20 (asks-same (block_at x n) (block_at y n) b)) (λ u. tests_same (some_recipient x) (some_recipient y) 21 some_same)))

    receipt-fault-same : receipt_fault x n count ≡ receipt_fault y n count
    unfolding receipt_fault
    receipt-fault-same =
        verdicts-same _ _ _ _ (same-fault x y s count) (λ z.
        refusals-same _ _ _ _ (tests_same (has_block x n) (has_block y n) 29 (has_same n)) (λ t.
        let b = block_same (valid-parts x count z).fields n (fine (has_block x n) 29 (lit< tt) t) in
        refusals-same _ _ _ _ (tests_same (block_at x n).response.present (block_at y n).response.present 24 (response-same (block_at x n) (block_at y n) b)) (λ u.
        tests_same (x.front.originator.present && one_recipient x) (y.front.originator.present && one_recipient y) 25 (ap₂ ◌&&◌ from-there one_same))))

    -- what a posting names
    module _ (e : (posting_fault x n count).number ≡ 0) where
      p : Posts x n count
      p = posts x n count e

      there : x.front.recipients.present ≡ true
      there = and_left x.front.recipients.present _ p.addressed

      posted : same_block (block_at x n) (block_at y n)
      posted = block_same p.valid.fields n p.block-there

      posting-key : key_of (posting_key x (block_at x n)) ≡ key_of (posting_key y (block_at y n))
      unfolding same_key same_block same_times same_optional_stamp
      posting-key =
          key-same (posting_key x (block_at x n)) (posting_key y (block_at y n)) (from-address p.from-there, posted.0.1.1.0.1 p.origin)
          (legal-key (posting_key x (block_at x n)) p.from-legal p.origin-legal)

      posting-asks : ask_of (block_at x n).times.requests.requests ≡ ask_of (block_at y n).times.requests.requests
      unfolding same_block same_times same_optional_requests
      posting-asks = ap ask_of (posted.0.1.1.1.1.1 (and_left (block_at x n).times.requests.present _ p.asking))

      posting-recipients : map address_of (recipients_of x) ≡ map address_of (recipients_of y)
      unfolding recipients_of same_optional_addresses same_addresses
      posting-recipients =
          let t : y.front.recipients.present ≡ true = sym to_same.0 ∙ there in
          let l = x.front.recipients.addresses.list in
          let k = x.front.recipients.addresses.count in
          rw (there, t) (addresses-same (to_same.1 there).1.1 (λ i q.
          let j : i < k = omega (arith, q, length-take k l) in
          ap address.check (get_or-take k l i no_address j) ∙ recipient-legal x p.valid.fields there i j))

    -- what a receipt names
    module _ (e : (receipt_fault x n count).number ≡ 0) where
      a : Answers x n count
      a = answers x n count e

      one : (x.front.recipients.present ≡ true) × (x.front.recipients.addresses.count ≡ 1)
      one = (and_left x.front.recipients.present (eqb x.front.recipients.addresses.count 1) a.one, eqb-true _ 1 (and_right x.front.recipients.present (eqb x.front.recipients.addresses.count 1) a.one))

      answering : same_block (block_at x n) (block_at y n)
      answering = block_same a.valid.fields n a.block-there

      first-recipient : same_address (first_recipient x) (first_recipient y)
      unfolding same_optional_addresses same_addresses
      first-recipient =
          cell_same same_address x.front.recipients.addresses.list y.front.recipients.addresses.list x.front.recipients.addresses.count y.front.recipients.addresses.count 0 no_address
          (to_same.1 one.0).1.0 (recipients-fit x a.valid.fields one.0) (omega (arith, one.1)) (to_same.1 one.0).1.1

      receipt-key : key_of (receipt_key x (block_at x n)) ≡ key_of (receipt_key y (block_at y n))
      unfolding same_key same_block same_optional_response same_response
      receipt-key =
          key-same (receipt_key x (block_at x n)) (receipt_key y (block_at y n)) (first-recipient, (answering.1.0.1 a.response).0)
          (legal-key (receipt_key x (block_at x n)) a.to-legal a.stamp-legal)

      receipt-answerer : address_of x.front.originator.address ≡ address_of y.front.originator.address
      receipt-answerer = address_same x.front.originator.address y.front.originator.address (from-address a.from-there) (from-legal x a.valid.fields a.from-there)

      receipt-code : (block_at x n).response.response.compliance.code ≡ (block_at y n).response.response.compliance.code
      unfolding same_block same_optional_response same_response same_compliance
      receipt-code = (answering.1.0.1 a.response).1.0.0

    -- postings of records that are the same are one call
    pub same-posting : call_of (posting x n count) ≡ call_of (posting y n count)
    unfolding call_of
    same-posting = named-same _ _ _ _ posting-fault-same (λ e. λ i. post (posting-key e i) (make (posting-asks e i) (posting-recipients e i)))

    -- and so are receipts
    pub same-receiving : call_of (receiving x n count) ≡ call_of (receiving y n count)
    unfolding call_of
    same-receiving = named-same _ _ _ _ receipt-fault-same (λ e. λ i. receipt (receipt-key e i) (receipt-answerer e i, receipt-code e i))

-- releases by keys that are the same are one call
pub same-releasing : (j k : DeclaredKey) → same_key j k → call_of (releasing j) ≡ call_of (releasing k)
unfolding call_of
same-releasing j k s = named-same _ _ _ _ (ap plain (key-check j k s)) (λ e. ap release (key-same j k s e))
