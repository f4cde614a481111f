-- The refusals that a call's arguments alone decide, way by way. Assumes nothing.
use Prim.Native.Nat.{ℕ, zero, suc, ◌-◌, ◌<◌, ◌≤◌}
use mathlib.Core.Path.{◌≡◌, refl, ap, sym, ◌∙◌}
use mathlib.Core.Bool.{Bool, true, false, ◌&&◌, ◌||◌}
use mathlib.Core.List.{List, [], ◌∷◌}
use lib.ListN.{length, get_or}
use lib.Dec.{lit<}
use native.Mathlib.Omega.{arith}
use Rattle.codec.specs.Answer.{pick}
use Rattle.codec.specs.Codec.{first, viewed}
use Rattle.codec.specs.Refusals.{check_no, fault_no}
use Rattle.codec.specs.declared.Fault.{Fault}
use Rattle.codec.specs.declared.Refusal.{Refusal}
use Rattle.std.specs.Prelude.{Result, Ok, Err}
use Rattle.bits.specs.declared.OctetSize.{OctetSize}
use Rattle.codec.specs.Verdict.{Verdict, in_block, plain, fine, first_of}
use Rattle.codec.proofs.Verdicts.{first-none, first_some, first_fine}
use Rattle.codec.proofs.Told.{fault-positive, first-refusal}
use Rattle.codec.proofs.ListEnds.{count_most}
use Rattle.header.specs.declared.Block.{Block}
use Rattle.header.specs.declared.Header.{Header}
use Rattle.writer.specs.Writing.{Writing, done, rejected, answered, checking, fields_fault, record_verdict, fault_of, header_size, told}
use Rattle.writer.proofs.Ways.{not_done, answer-done, valid-fields}
use Rattle.writer.proofs.Parts.{blocks-legal}
use Rattle.header.specs.Table.{block, blocks}
use Rattle.header.specs.Zero.{no_block}
use Rattle.arguments.specs.Arguments.{has_block, block_at}
use Rattle.arguments.specs.Told.{Answer, pending_no, answer_says, answer_place, written_says}
use Rattle.arguments.specs.declared.PendingFault.{PendingFault}
use Rattle.arguments.specs.declared.PendingFault.TheVariants.{Record, NothingAsked, NoRecipient, KeyHeld, TableFull, NoResponse, NotOneRecipient, NoRow, NotARecipient, NothingOpen, NoBlock, IllFormed}

-- a cell of a list does not depend on what stands for a missing one
pub any-default : {A : Type 0} (l : List A) (i : ℕ) (d e : A) → i < length l → get_or l i d ≡ get_or l i e
any-default [] i d e h = absurd (omega arith)
any-default (x ∷ l) zero d e h = refl
any-default (x ∷ l) (suc i) d e h = any-default l i d e (omega arith)

-- the block with a number
pub block-is : (h : Header) (n : ℕ) (d : Block) → has_block h n ≡ true → n - 1 < length h.blocks.list → get_or h.blocks.list (n - 1) d ≡ block_at h n
unfolding block_at
block-is h zero d e l = let z : ◌≡◌ {A = ℕ} 0 1 = cc in absurd (omega arith)
block-is h (suc i) d e l = let k : suc i - 1 ≡ i = omega arith in any-default h.blocks.list (suc i - 1) d no_block l ∙ rw k

-- the block at hand is that block, in a record that is valid
pub block-named : (h : Header) (n count : ℕ) (b : Block) → (fault_of h count).number ≡ 0 → has_block h n ≡ true → (has_block h n ≡ true → h.blocks.count ≤ 16 → b ≡ block_at h n) → b ≡ block_at h n
unfolding blocks viewed
block-named h n count b v e is = is e (count_most no_block (block h.front.version) 16 15 _ _ (blocks-legal h (valid-fields h count v)))

-- ---- an answer

pub plain-says : (f : PendingFault) (y : Refusal PendingFault) → (y.fault ≡ f) × (y.place.0 ≡ 0) × (y.block.0 ≡ 0) → (answer_says (Err y) ≡ plain (pending_no f)) × (answer_place (Err y) ≡ 0)
unfolding answer_says answer_place
plain-says f y h = (λ i. in_block (h.2 i) (pending_no (h.0 i)), h.1)

pub fault-no : (f : PendingFault) → 0 < pending_no f
unfolding pending_no
fault-no (Record f) = fault-positive f
fault-no NothingAsked = lit< tt
fault-no NoRecipient = lit< tt
fault-no KeyHeld = lit< tt
fault-no TableFull = lit< tt
fault-no NoResponse = lit< tt
fault-no NotOneRecipient = lit< tt
fault-no NoRow = lit< tt
fault-no NotARecipient = lit< tt
fault-no NothingOpen = lit< tt
fault-no NoBlock = lit< tt
fault-no IllFormed = lit< tt

pub answer-bad : (e : Refusal PendingFault) → 0 < (answer_says (Err e)).number
unfolding answer_says
answer-bad e = fault-no e.fault

-- ---- the writer's answer

-- a record that is not refused tells nothing at all
fault-fine : (h : Header) (count : ℕ) → (fault_of h count).number ≡ 0 → fine ≡ fault_of h count
unfolding fault_of
fault-fine h count e =
    let a = first_fine (plain (fields_fault h)) _ e in
    let b = first_fine (record_verdict h count) _ a.1 in
    sym (first-none (plain (fields_fault h)) _ a.0 ∙ first-none (record_verdict h count) _ b.0 ∙ ap plain b.1)

refused_says : Writing → Verdict
refused_says (done m) = fine
refused_says (rejected g q i) = in_block i g

pub written-says : (h : Header) (count : ℕ) (w : Result OctetSize (Refusal Fault)) → told w ≡ checking h count → written_says w ≡ fault_of h count
unfolding checking told written_says answered refused_says
written-says h count (Ok m) e = fault-fine h count (answer-done (fault_of h count) (header_size h) m.0 (sym e)).0
written-says h count (Err r) e = go (fault_of h count).number (fault_of h count).block e
  where
    go : (k i : ℕ) → rejected (fault_no r.fault) r.place.0 r.block.0 ≡ answered (in_block i k) (header_size h) → in_block r.block.0 (fault_no r.fault) ≡ in_block i k
    go zero i d = not_done (sym d)
    go (suc k) i d = ap refused_says d

-- what the writer's answer says of the call
module _ (h : Header) (count : ℕ) (w : Result OctetSize (Refusal Fault)) (t : told w ≡ checking h count) where
  -- a valid record
  pub written-valid : answer_says (Ok tt) ≡ written_says w → (fault_of h count).number ≡ 0
  unfolding answer_says
  written-valid e = ap (λ (v : Verdict). v.number) (sym (e ∙ written-says h count w t))

  -- a record that is refused
  pub written-bad : (r : Refusal PendingFault) → answer_says (Err r) ≡ written_says w → 0 < (fault_of h count).number
  written-bad r e = omega (arith, answer-bad r, ap (λ (v : Verdict). v.number) (e ∙ written-says h count w t))

-- ---- a record's refusal, then 29 for the block, y for its group and z for the addressees

module _ (f : Verdict) (a b c : Bool) (y z : ℕ) where
  abbrev chain : Verdict
  chain = first_of f (plain (first (pick a 0 29) (first (pick b 0 y) (pick c 0 z))))

  pub at-record : 0 < f.number → f ≡ chain
  at-record l = sym (first_some f _ l)

  module _ (e : f.number ≡ 0) where
    pub at_block : a ≡ false → plain 29 ≡ chain
    unfolding first first_of
    at_block d = rw (e, d)

    module _ (t : a ≡ true) where
      pub at-group : 0 < y → b ≡ false → plain y ≡ chain
      unfolding first first_of
      at-group l d = rw (e, t, d) (ap plain (first-refusal y _ l))

      module _ (u : b ≡ true) where
        pub at-addressees : c ≡ false → plain z ≡ chain
        unfolding first first_of
        at-addressees d = rw (e, t, u, d)

        pub at_none : c ≡ true → fine ≡ chain
        unfolding first first_of
        at_none d = rw (e, t, u, d)
