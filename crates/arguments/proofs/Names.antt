-- What a call names that its arguments do not refuse: its message is the key, and a receipt's answerer is its originator. Assumes nothing.
use Prim.Native.Nat.{ℕ, zero, suc, ◌<◌}
use mathlib.Core.Path.{◌≡◌, refl, ap, ◌∙◌}
use mathlib.Core.Bool.{Bool, true, cond, ◌&&◌}
use mathlib.Core.Logic.{inl, inr}
use mathlib.Core.Option.{Option, none, some}
use lib.ListN.{get_or}
use lib.Dec.{leb, eqb, lit<}
use borrow.Author.Tests.{leb-true, eqb-true, eq-eqb}
use native.Mathlib.Omega.{arith}
use Rattle.codec.specs.Answer.{pick}
use Rattle.codec.specs.Codec.{first}
use Rattle.codec.proofs.Fields.{and_left, and_right}
use Rattle.codec.proofs.ListLaws.{fine-legal}
use Rattle.codec.proofs.Sequences.{first-zero}
use Rattle.codec.specs.Verdict.{Verdict, plain, whether}
use Rattle.codec.proofs.Verdicts.{first_fine}
use Rattle.header.specs.Order.{in_order}
use Rattle.header.specs.Rules.{rules, setting_of, used_blocks}
use Rattle.header.specs.Sizes.{judgement}
use Rattle.header.specs.Table.{address, stamp, block}
use Rattle.header.specs.Zero.{no_block}
use Rattle.header.specs.declared.Header.{Header}
use Rattle.writer.specs.Writing.{fault_of, record_verdict}
use Rattle.writer.proofs.Parts.{front-legal, blocks-legal}
use Rattle.writer.proofs.Valid.{Valid, valid-parts}
use Rattle.order.specs.Values.{Address, Key, key_of, key_fault}
use Rattle.order.specs.Requests.{ask_of}
use Rattle.calls.specs.Operations.{key, post, receipt, release}
use Rattle.order.specs.Calls.{Operation, Call}
use Rattle.order.specs.declared.Key.{Key as DeclaredKey}
use Rattle.arguments.specs.Arguments.{Arguments, posting, receiving, releasing, has_block, block_at, asks, some_recipient, one_recipient, first_recipient, posting_key, receipt_key, posting_fault, receipt_fault, named, call_of, legal_key, message, answerer}
use Rattle.arguments.proofs.Legal.{front-originator, front-recipient, block-origin, block-response, block-legal, originator-there, origin-there}

-- a call that names something is not refused
pub named-operation : (v : Verdict) (d e : Operation) → named v d ≡ inr e → (v.number ≡ 0) × (d ≡ e)
named-operation v d e = go v.number
  where
    go : (n : ℕ) → ◌≡◌ {A = Call} (whether n (inr d) (inl v)) (inr e) → (n ≡ 0) × (d ≡ e)
    go zero q = (refl, cc)
    go (suc f) q = let z : ◌≡◌ {A = ℕ} 0 1 = cc in absurd (omega arith)

passes : (b : Bool) (f : ℕ) → 0 < f → pick b 0 f ≡ 0 → b ≡ true
passes b f l e = (fine-legal b 0 f l e).0

-- the checks that a posting has passed, and what they say of its record and block
pub record Posts (h : Header) (n count : ℕ) : Type 0 where
  pub valid : Valid h count
  pub block-there : has_block h n ≡ true
  pub asking : asks (block_at h n) ≡ true
  pub addressed : some_recipient h ≡ true
  pub from-there : h.front.originator.present ≡ true
  pub from-legal : address.check h.front.originator.address ≡ 0
  pub origin : (block_at h n).times.origin.present ≡ true
  pub origin-legal : stamp.check (block_at h n).times.origin.stamp ≡ 0

-- no rule is broken
rules-kept : (h : Header) (count : ℕ) → (record_verdict h count).number ≡ 0 → (in_order (rules (setting_of h)) (used_blocks h.blocks)).number ≡ 0
unfolding judgement
rules-kept h count e = (first_fine (in_order (rules (setting_of h)) (used_blocks h.blocks)) _ e).0

module _ (h : Header) (count : ℕ) (v : Valid h count) where
  used : (n : ℕ) → has_block h n ≡ true → (i : ℕ) → n ≡ suc i → i < h.blocks.count
  used n e i q = omega (arith, leb-true n h.blocks.count (and_right (leb 1 n) (leb n h.blocks.count) e), q)

  -- the block that is looked at is a block of the record
  pub legal-at : (n : ℕ) → has_block h n ≡ true → (block h.front.version).check (block_at h n) ≡ 0
  unfolding block_at
  legal-at zero e = let z : ◌≡◌ {A = ℕ} 0 1 = cc in absurd (omega arith)
  legal-at (suc i) e = block-legal h (blocks-legal h v.fields) (rules-kept h count v.judged) i (used (suc i) e i refl)

  asker : (n : ℕ) → has_block h n ≡ true → asks (block_at h n) ≡ true → (h.front.originator.present ≡ true) × ((block_at h n).times.origin.present ≡ true)
  unfolding block_at ask_of
  asker zero e a = let z : ◌≡◌ {A = ℕ} 0 1 = cc in absurd (omega arith)
  asker (suc i) e a =
      let b = get_or h.blocks.list i no_block in
      let p = and_left b.times.requests.present _ a in
      let q = and_right b.times.requests.present _ a in
      let l = used (suc i) e i refl in
      (originator-there h (blocks-legal h v.fields) (rules-kept h count v.judged) i l p, origin-there h (blocks-legal h v.fields) (rules-kept h count v.judged) i l p q)

pub posts : (h : Header) (n count : ℕ) → (posting_fault h n count).number ≡ 0 → Posts h n count
unfolding posting_fault
posts h n count e =
    let a = first_fine (fault_of h count) _ e in
    let b = first-zero (pick (has_block h n) 0 29) _ a.1 in
    let c = first-zero (pick (asks (block_at h n)) 0 20) _ b.1 in
    let v = valid-parts h count a.0 in
    let t = passes (has_block h n) 29 (lit< tt) b.0 in
    let q = passes (asks (block_at h n)) 20 (lit< tt) c.0 in
    let w = asker h count v n t q in
    record {
      valid = v;
      block-there = t;
      asking = q;
      addressed = passes (some_recipient h) 21 (lit< tt) c.1;
      from-there = w.0;
      from-legal = front-originator h.front (front-legal h v.fields) w.0;
      origin = w.1;
      origin-legal = block-origin h.front.version (block_at h n) (legal-at h count v n t) w.1;
    }

-- the checks that a receipt has passed
pub record Answers (h : Header) (n count : ℕ) : Type 0 where
  pub valid : Valid h count
  pub block-there : has_block h n ≡ true
  pub response : (block_at h n).response.present ≡ true
  pub stamp-legal : stamp.check (block_at h n).response.response.stamp ≡ 0
  pub from-there : h.front.originator.present ≡ true
  pub one : one_recipient h ≡ true
  pub to-legal : address.check (first_recipient h) ≡ 0

pub answers : (h : Header) (n count : ℕ) → (receipt_fault h n count).number ≡ 0 → Answers h n count
unfolding receipt_fault
answers h n count e =
    let a = first_fine (fault_of h count) _ e in
    let b = first-zero (pick (has_block h n) 0 29) _ a.1 in
    let c = first-zero (pick (block_at h n).response.present 0 24) _ b.1 in
    let v = valid-parts h count a.0 in
    let t = passes (has_block h n) 29 (lit< tt) b.0 in
    let r = passes (block_at h n).response.present 24 (lit< tt) c.0 in
    let o = passes (h.front.originator.present && one_recipient h) 25 (lit< tt) c.1 in
    let one = and_right h.front.originator.present (one_recipient h) o in
    let p = and_left h.front.recipients.present (eqb h.front.recipients.addresses.count 1) one in
    let k = eqb-true h.front.recipients.addresses.count 1 (and_right h.front.recipients.present (eqb h.front.recipients.addresses.count 1) one) in
    record {
      valid = v;
      block-there = t;
      response = r;
      stamp-legal = block-response h.front.version (block_at h n) (legal-at h count v n t) r;
      from-there = and_left h.front.originator.present (one_recipient h) o;
      one = one;
      to-legal = front-recipient h.front 0 (front-legal h v.fields) p (omega (arith, k));
    }

-- a key whose parts are legal
legal-is : (k : DeclaredKey) → address.check k.address ≡ 0 → stamp.check k.stamp ≡ 0 → legal_key k ≡ some (key_of k)
unfolding first
legal-is k a s = rw (a, s)

all_three : {A : Type 0} (a b c : Bool) (x y : A) → a ≡ true → b ≡ true → c ≡ true → cond (a && b && c) x y ≡ x
all_three a b c x y p q r = rw (p, q, r)

pub message-is : (x : Arguments) (d : Operation) → call_of x ≡ inr d → message x ≡ some (key d)
unfolding call_of message
message-is (posting h n count) d e =
    let f = named-operation (posting_fault h n count) _ d e in
    let p = posts h n count f.0 in
    all_three _ _ _ _ _ p.block-there p.from-there p.origin ∙ legal-is (posting_key h (block_at h n)) p.from-legal p.origin-legal ∙ ap (λ (y : Operation). some (key y)) f.1
message-is (receiving h n count) d e =
    let f = named-operation (receipt_fault h n count) _ d e in
    let p = answers h n count f.0 in
    all_three _ _ _ _ _ p.block-there p.one p.response ∙ legal-is (receipt_key h (block_at h n)) p.to-legal p.stamp-legal ∙ ap (λ (y : Operation). some (key y)) f.1
message-is (releasing k) d e =
    let f = named-operation (plain (key_fault k)) (release (key_of k)) d e in
    rw (eq-eqb (key_fault k) 0 f.0) (ap (λ (y : Operation). some (key y)) f.1)

-- the answerer of a receipt
abbrev answering : Operation → Option Address
answering (post k r) = none
answering (receipt k p) = some p.0
answering (release k) = none

pub answerer-is : (h : Header) (n count : ℕ) (k : Key) (w : Address) (c : ℕ) → call_of (receiving h n count) ≡ inr (receipt k (w, c)) → answerer h ≡ some w
unfolding call_of answerer
answerer-is h n count k w c e =
    let f = named-operation (receipt_fault h n count) _ (receipt k (w, c)) e in
    rw (answers h n count f.0).from-there (ap answering f.1)
