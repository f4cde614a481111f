-- The parts of a valid record that a call names are there and legal. Assumes nothing.
use Prim.Native.Nat.{ℕ, ◌<◌}
use mathlib.Core.Path.{◌≡◌, refl}
use mathlib.Core.Bool.{Bool, true, false, not, ◌&&◌, ◌||◌}
use lib.ListN.{length, get_or, length-take}
use lib.Seq.{get_or-take}
use lib.Dec.{leb, lit<, lit≤}
use native.Mathlib.Omega.{arith}
use Rattle.codec.specs.Codec.{Codec, first, number, flag, present, viewed, ◌then_by◌}
use Rattle.codec.proofs.Fields.{and_left}
use Rattle.codec.proofs.Sequences.{first-zero}
use Rattle.codec.proofs.ListLaws.{fine-legal}
use borrow.Author.Tests.{leb-true}
use Rattle.codec.proofs.ListEnds.{whole-array, count_most, entry-legal}
use Rattle.header.specs.Zero.{no_address, no_stamp, no_response, no_block}
use Rattle.header.specs.Table.{maybe, address, addresses, originator, recipients, front, stamp, format, handling, optional_stamp, times, compliance, response, optional_response, block, blocks}
use Rattle.header.specs.Order.{in_order}
use Rattle.header.specs.Rules.{◌⇒◌, rule_a, rule_i, rules, used_blocks, setting_of}
use Rattle.header.specs.declared.Front.{Front}
use Rattle.header.specs.declared.Block.{Block}
use Rattle.header.specs.declared.Header.{Header}
use Rattle.header.proofs.Kept.{any_rule, rules-numbered, kept_at}
use Rattle.header.proofs.Legal.{front-recipients, addressees-legal}

there : {A : Type 0} (x : A) (c : Codec A) (b : Bool) (y : A) → b ≡ true → (present x c b).check y ≡ 0 → c.check y ≡ 0
unfolding present
there x c b y e h = rw e at h

originator-legal : (x : Front) → front.check x ≡ 0 → originator.check x.originator ≡ 0
unfolding front viewed ◌then_by◌
originator-legal x h =
    let a = (first-zero (first ((number 4 1 2 2).check x.version) (first ((maybe 2 0 1).check x.compression) (originator.check x.originator))) _ h).0 in
    let b = (first-zero ((number 4 1 2 2).check x.version) _ a).1 in
    (first-zero ((maybe 2 0 1).check x.compression) (originator.check x.originator) b).1

pub front-originator : (x : Front) → front.check x ≡ 0 → x.originator.present ≡ true → address.check x.originator.address ≡ 0
unfolding originator viewed ◌then_by◌ flag first
front-originator x h e = there no_address address x.originator.present x.originator.address e (originator-legal x h)

pub front-recipient : (x : Front) (i : ℕ) → front.check x ≡ 0 → x.recipients.present ≡ true → i < x.recipients.addresses.count → address.check (get_or x.recipients.addresses.list i no_address) ≡ 0
unfolding addresses viewed
front-recipient x i h e l =
    let g = addressees-legal x.recipients e (front-recipients x h) in
    entry-legal no_address address 16 15 x.recipients.addresses.list x.recipients.addresses.count g (lit≤ tt) i no_address l

-- the groups of a block of a record of that version
module _ (version : ℕ) where
  message-legal : (b : Block) → (block version).check b ≡ 0 → first ((format version).check b.format) (first (handling.check b.handling) (times.check b.times)) ≡ 0
  unfolding block viewed ◌then_by◌
  message-legal b h = (first-zero (first ((format version).check b.format) (first (handling.check b.handling) (times.check b.times))) _ h).0

  times-legal : (b : Block) → (block version).check b ≡ 0 → times.check b.times ≡ 0
  times-legal b h =
      let c = (first-zero ((format version).check b.format) _ (message-legal b h)).1 in
      (first-zero (handling.check b.handling) (times.check b.times) c).1

  origin-legal : (b : Block) → (block version).check b ≡ 0 → optional_stamp.check b.times.origin ≡ 0
  unfolding times viewed ◌then_by◌
  origin-legal b h = (first-zero (optional_stamp.check b.times.origin) _ (times-legal b h)).0

  pub block-origin : (b : Block) → (block version).check b ≡ 0 → b.times.origin.present ≡ true → stamp.check b.times.origin.stamp ≡ 0
  unfolding optional_stamp viewed ◌then_by◌ flag first
  block-origin b h e = there no_stamp stamp b.times.origin.present b.times.origin.stamp e (origin-legal b h)

  response-legal : (b : Block) → (block version).check b ≡ 0 → optional_response.check b.response ≡ 0
  unfolding block viewed ◌then_by◌
  response-legal b h =
      let a = (first-zero (first ((format version).check b.format) (first (handling.check b.handling) (times.check b.times))) _ h).1 in
      (first-zero (optional_response.check b.response) _ a).0

  response-there : (b : Block) → (block version).check b ≡ 0 → b.response.present ≡ true → response.check b.response.response ≡ 0
  unfolding optional_response viewed ◌then_by◌ flag first
  response-there b h e = there no_response response b.response.present b.response.response e (response-legal b h)

  pub block-response : (b : Block) → (block version).check b ≡ 0 → b.response.present ≡ true → stamp.check b.response.response.stamp ≡ 0
  unfolding response viewed ◌then_by◌
  block-response b h e = (first-zero (stamp.check b.response.response.stamp) _ (response-there b h e)).0

  -- a receipt's code is a number from 1 to 6
  compliance-legal : (b : Block) → (block version).check b ≡ 0 → b.response.present ≡ true → compliance.check b.response.response.compliance ≡ 0
  unfolding response viewed ◌then_by◌
  compliance-legal b h e =
      let a = (first-zero (stamp.check b.response.response.stamp) _ (response-there b h e)).1 in
      (first-zero (compliance.check b.response.response.compliance) _ a).0

  code-legal : (b : Block) → (block version).check b ≡ 0 → b.response.present ≡ true → (number 3 1 6 3).check b.response.response.compliance.code ≡ 0
  unfolding compliance viewed ◌then_by◌
  code-legal b h e = (first-zero ((number 3 1 6 3).check b.response.response.compliance.code) _ (compliance-legal b h e)).0

  pub code-some : (b : Block) → (block version).check b ≡ 0 → b.response.present ≡ true → 0 < b.response.response.compliance.code
  unfolding number
  code-some b h e =
      let c = b.response.response.compliance.code in
      let t = (fine-legal (leb 1 c && leb c 6) 0 3 (lit< tt) (code-legal b h e)).0 in
      omega (arith, leb-true 1 c (and_left (leb 1 c) (leb c 6) t))

-- ---- a used block, by its number less one

module _ (h : Header) (fields : (blocks h.front.version).check h.blocks ≡ 0) (kept : (in_order (rules (setting_of h)) (used_blocks h.blocks)).number ≡ 0) (i : ℕ) (l : i < h.blocks.count) where
  abbrev here : Block
  here = get_or h.blocks.list i no_block

  pub block-legal : (block h.front.version).check here ≡ 0
  unfolding blocks viewed
  block-legal = entry-legal no_block (block h.front.version) 16 15 h.blocks.list h.blocks.count fields (lit≤ tt) i no_block l

  used : length (used_blocks h.blocks) ≡ h.blocks.count
  unfolding blocks viewed
  used =
      rw length-take
      (omega (arith, whole-array no_block (block h.front.version) 16 15 h.blocks.list h.blocks.count fields, count_most no_block (block h.front.version) 16 15 h.blocks.list h.blocks.count fields))

  -- each of the rules, by its place
  rule : (j : ℕ) → j < 9 → (get_or (rules (setting_of h)) j any_rule).each here ≡ true
  rule j m = rw (get_or-take h.blocks.count h.blocks.list i no_block l) at (kept_at (rules (setting_of h)) (rules-numbered (setting_of h)) (used_blocks h.blocks) kept j m i no_block (omega (arith, used)))

  -- a block with requests has an originator
  pub originator-there : here.times.requests.present ≡ true → h.front.originator.present ≡ true
  unfolding rule_a
  originator-there e = go h.front.originator.present (rule 0 (lit< tt))
    where
      go : (b : Bool) → (not b ⇒ not here.times.requests.present) ≡ true → b ≡ true
      go true r = refl
      go false r = rw e at r

  -- and, where one is set, an originator's DTG
  pub origin-there : here.times.requests.present ≡ true → (here.times.requests.requests.machine || here.times.requests.requests.acknowledge || here.times.requests.requests.reply) ≡ true → here.times.origin.present ≡ true
  unfolding rule_i
  origin-there e a = rw (e, a) at (rule 8 (lit< tt))
