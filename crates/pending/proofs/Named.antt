-- The three calls: what the code names is what document 01 has the call name, so that the transition is the call's. Assumes nothing.
use Prim.Native.Nat.{ℕ, zero, suc, ◌<◌, ◌≤◌}
use mathlib.Core.Path.{◌≡◌, refl, ap, sym, ◌∙◌}
use mathlib.Core.Bool.{Bool, true}
use mathlib.Core.List.{[], map}
use mathlib.Core.Logic.{inl, inr}
use lib.ListN.{take}
use lib.Dec.{leb}
use Rattle.codec.specs.Answer.{pick}
use Rattle.codec.specs.Codec.{first, viewed}
use Rattle.codec.specs.Verdict.{Verdict, plain, whether}
use Rattle.codec.proofs.Fields.{and_left, and_right}
use Rattle.codec.proofs.ListEnds.{count_most}
use Rattle.header.specs.Table.{addresses, block, blocks}
use Rattle.header.specs.Zero.{no_block}
use Rattle.header.specs.declared.Address.{Address}
use Rattle.header.specs.declared.Addresses.{Addresses}
use Rattle.header.specs.declared.Block.{Block}
use Rattle.header.specs.declared.Header.{Header}
use Rattle.header.specs.declared.Requests.{Requests}
use Rattle.header.proofs.Legal.{front-recipients, addressees-legal}
use Rattle.writer.proofs.Valid.{Valid}
use Rattle.writer.proofs.Parts.{front-legal, blocks-legal}
use Rattle.order.specs.Values.{address_of, key_of, key_fault}
use Rattle.order.specs.Requests.{any_of, ask_of}
use Rattle.calls.specs.Operations.{post, receipt, release}
use Rattle.order.specs.Calls.{Operation, Call, make}
use Rattle.order.specs.declared.Key.{Key}
use Rattle.table_octets.specs.Image.{key_image}
use Rattle.table_octets.proofs.Images.{key-of-image, key-image-legal}
use Rattle.arguments.specs.Arguments.{posting, receiving, releasing, has_block, block_at, recipients_of, posting_key, receipt_key, posting_fault, receipt_fault, named, call_of}
use Rattle.arguments.proofs.Legal.{code-some}
use Rattle.arguments.proofs.Names.{Posts, posts, answers, legal-at}

-- a call that the arguments refuse names no operation
same-named : (f g : Verdict) (d e : Operation) → f ≡ g → (g.number ≡ 0 → d ≡ e) → named f d ≡ named g e
same-named f g d e i same = ap (λ (v : Verdict). named v d) i ∙ go g.number same
  where
    go : (n : ℕ) → (n ≡ 0 → d ≡ e) → ◌≡◌ {A = Call} (whether n (inr d) (inl g)) (whether n (inr e) (inl g))
    go zero s = ap inr (s refl)
    go (suc n) s = refl

-- ---- release

pub release-named : (k : Key) (f : Verdict) → f ≡ plain (key_fault k) → named f (release (key_of k)) ≡ call_of (releasing k)
unfolding call_of
release-named k f e = same-named f _ _ _ e (λ z. refl)

-- ---- posting and receipt: the block and the key that the code has at hand

module _ (h : Header) (n count : ℕ) (b : Block) (is : has_block h n ≡ true → h.blocks.count ≤ 16 → b ≡ block_at h n) (k : Key) where
  -- a valid record's block
  block-is : Valid h count → has_block h n ≡ true → b ≡ block_at h n
  unfolding blocks viewed
  block-is v there = is there (count_most no_block (block h.front.version) 16 15 _ _ (blocks-legal h v.fields))

  -- the requests and the recipients, as loaded
  module _ (key : k ≡ key_image (key_of (posting_key h b))) (asked : Requests) (asks : asked ≡ b.times.requests.requests) (to : Addresses) (list : to ≡ h.front.recipients.addresses) where
    present : Posts h n count → h.front.recipients.present ≡ true
    present P = and_left h.front.recipients.present (leb 1 h.front.recipients.addresses.count) P.addressed

    -- what is asked of the arguments of the operation
    pub post-asks : (f : Verdict) → f ≡ posting_fault h n count → f.number ≡ 0 → (key_fault k ≡ 0) × (any_of (ask_of asked) ≡ true) × ((addresses 15).check to ≡ 0)
    unfolding first
    post-asks f e z =
        let P = posts h n count (ap (λ (v : Verdict). v.number) (sym e) ∙ z) in
        let i = block-is P.valid P.block-there in (
          ap key_fault key ∙ key-image-legal (posting_key h b) (rw (i, P.from-legal, P.origin-legal) refl),
          rw (asks, i) (and_right (block_at h n).times.requests.present _ P.asking),
          rw list (addressees-legal h.front.recipients (present P) (front-recipients h.front (front-legal h P.valid.fields))),
        )

    recipients-are : Posts h n count → take h.front.recipients.addresses.count h.front.recipients.addresses.list ≡ recipients_of h
    unfolding recipients_of
    recipients-are P = taken h.front.recipients.present (present P)
      where
        taken : (p : Bool) → p ≡ true → take h.front.recipients.addresses.count h.front.recipients.addresses.list ≡ pick p (take h.front.recipients.addresses.count h.front.recipients.addresses.list) []
        taken p e = rw e

    pub post-named : (f : Verdict) → f ≡ posting_fault h n count → named f (post (key_of k) (make (ask_of asked) (map address_of (take to.count to.list)))) ≡ call_of (posting h n count)
    unfolding call_of
    post-named f e = same-named f _ _ _ e named-so
      where
        named-so : (posting_fault h n count).number ≡ 0 → ◌≡◌ {A = Operation} (post (key_of k) (make (ask_of asked) (map address_of (take to.count to.list)))) (post (key_of (posting_key h (block_at h n))) (make (ask_of (block_at h n).times.requests.requests) (map address_of (recipients_of h))))
        named-so z =
            let P = posts h n count z in
            let i = block-is P.valid P.block-there in
            let same : key_of k ≡ key_of (posting_key h (block_at h n)) = ap key_of key ∙ key-of-image (key_of (posting_key h b)) ∙ ap (λ (y : Block). key_of (posting_key h y)) i in
            let wants : asked ≡ (block_at h n).times.requests.requests = asks ∙ ap (λ (y : Block). y.times.requests.requests) i in
            λ j. post (same j) (make (ask_of (wants j)) (map address_of ((ap (λ (y : Addresses). take y.count y.list) list ∙ recipients-are P) j)))

  -- the answerer and the answer's code, as loaded
  module _ (key : k ≡ key_image (key_of (receipt_key h b))) (who : Address) (from : who ≡ h.front.originator.address) (code : ℕ) (said : code ≡ b.response.response.compliance.code) where
    pub receipt-asks : (f : Verdict) → f ≡ receipt_fault h n count → f.number ≡ 0 → 0 < code
    receipt-asks f e z =
        let P = answers h n count (ap (λ (v : Verdict). v.number) (sym e) ∙ z) in
        rw (said, block-is P.valid P.block-there) (code-some h.front.version (block_at h n) (legal-at h count P.valid n P.block-there) P.response)

    pub receipt-named : (f : Verdict) → f ≡ receipt_fault h n count → named f (receipt (key_of k) (address_of who, code)) ≡ call_of (receiving h n count)
    unfolding call_of
    receipt-named f e = same-named f _ _ _ e named-so
      where
        named-so : (receipt_fault h n count).number ≡ 0 → ◌≡◌ {A = Operation} (receipt (key_of k) (address_of who, code)) (receipt (key_of (receipt_key h (block_at h n))) (address_of h.front.originator.address, (block_at h n).response.response.compliance.code))
        named-so z =
            let P = answers h n count z in
            let i = block-is P.valid P.block-there in
            let same : key_of k ≡ key_of (receipt_key h (block_at h n)) = ap key_of key ∙ key-of-image (key_of (receipt_key h b)) ∙ ap (λ (y : Block). key_of (receipt_key h y)) i in
            let answer : code ≡ (block_at h n).response.response.compliance.code = said ∙ ap (λ (y : Block). y.response.response.compliance.code) i in
            λ j. receipt (same j) (address_of (from j), answer j)
