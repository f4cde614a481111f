-- The answers of the check and of writing, way by way: each refusal where its check fails and no earlier one does. Assumes nothing.
use Prim.Native.Nat.{ℕ, zero, suc, ◌+◌, ◌<◌, ◌≤◌}
use mathlib.Core.Path.{◌≡◌, refl, ap, sym, ◌∙◌}
use mathlib.Core.List.{List, ◌++◌}
use lib.ListN.{drop, length}
use borrow.Author.Tests.{le-leb, lt-leb}
use native.Mathlib.Omega.{arith}
use Rattle.bits.specs.Units.{datagram_limit}
use Rattle.bits.specs.declared.OctetSize.{OctetSize}
use Rattle.codec.specs.Refusals.{check_no, fault_no, finding_says}
use Rattle.codec.specs.Verdict.{Verdict, in_block, plain, whether, first_of}
use Rattle.codec.specs.declared.Fault.{Fault}
use Rattle.codec.specs.declared.BlockFault.{BlockFault}
use Rattle.codec.specs.declared.Refusal.{Refusal}
use Rattle.std.specs.Prelude.{Ok, Err, ⊤}
use Rattle.codec.proofs.Told.{fault-positive}
use Rattle.codec.proofs.Verdicts.{first-none, first_some, first_fine}
use Rattle.header.specs.declared.Header.{Header}
use Rattle.writer.specs.Writing.{Writing, done, rejected, header_size, header_of, fields_fault, record_verdict, fault_of, answered, checking, writing, output_after, told}

pub not_done : {n f p b : ℕ} {X : Type 0} → done n ≡ rejected f p b → X
not_done e = let z : ◌≡◌ {A = ℕ} 0 1 = cc in absurd (omega arith)

-- an answer says that nothing is refused, and how many octets there are
pub answer-done : (v : Verdict) (m n : ℕ) → answered v m ≡ done n → (v.number ≡ 0) × (m ≡ n)
unfolding answered
answer-done v m n = go v.number
  where
    go : (k : ℕ) → whether k (done m) (rejected v.number 0 v.block) ≡ done n → (k ≡ 0) × (m ≡ n)
    go zero e = (refl, cc)
    go (suc k) e = not_done (sym e)

-- the answer where something is refused
refusal-answer : (v : Verdict) (n : ℕ) → 0 < v.number → rejected v.number 0 v.block ≡ answered v n
unfolding answered
refusal-answer v n = go v.number v.block
  where
    go : (k b : ℕ) → 0 < k → rejected k 0 b ≡ answered (in_block b k) n
    go zero b l = absurd (omega arith)
    go (suc k) b l = refl

fault-answer : (f : Fault) (b : ℕ) (v : Verdict) (n : ℕ) → in_block b (fault_no f) ≡ v → rejected (fault_no f) 0 b ≡ answered v n
fault-answer f b v n e = refusal-answer (in_block b (fault_no f)) n (fault-positive f) ∙ ap (λ (u : Verdict). answered u n) e

-- nothing is found
pub fine-finding : (v : Verdict) → finding_says {A = ⊤} (Ok tt) ≡ v → v.number ≡ 0
unfolding finding_says
fine-finding v e = ap (λ (u : Verdict). u.number) (sym e)

-- a refusal, by its parts
pub refusal-tells : (r : Refusal Fault) (f : Fault) (b : ℕ) → r.fault ≡ f → r.place.0 ≡ 0 → r.block.0 ≡ b → told (Err r) ≡ rejected (fault_no f) 0 b
unfolding told
refusal-tells r f b ef ep eb = rw (ef, ep, eb) refl

module _ (h : Header) (count : ℕ) where
  -- the fields are at fault
  pub bad-fields : (A : Type 0) (f : Fault) → check_no {A = A} (Err f) ≡ fields_fault h → rejected (fault_no f) 0 0 ≡ checking h count
  unfolding checking fault_of check_no
  bad-fields A f e = fault-answer f 0 _ _ (ap plain e ∙ sym (first_some (plain (fields_fault h)) _ (omega (arith, fault-positive f, e))))

  module _ (legal : fields_fault h ≡ 0) where
    -- a rule is broken, or a size is wrong
    pub bad-found : (x : BlockFault) → finding_says {A = ⊤} (Err x) ≡ record_verdict h count → rejected (fault_no x.fault) 0 x.block.0 ≡ checking h count
    unfolding checking fault_of finding_says
    bad-found x e =
        fault-answer x.fault x.block.0 _ _
        (e ∙ sym (first-none (plain (fields_fault h)) _ legal ∙ first_some (record_verdict h count) _ (omega (arith, fault-positive x.fault, ap (λ (u : Verdict). u.number) e))))

    module _ (right : (record_verdict h count).number ≡ 0) where
      pub too_long : datagram_limit < header_size h + count → rejected 12 0 0 ≡ checking h count
      unfolding checking fault_of answered first_of
      too_long l = rw (legal, right, lt-leb (header_size h + count) datagram_limit l)

      pub all_right : header_size h + count ≤ datagram_limit → done (header_size h) ≡ checking h count
      unfolding checking fault_of answered first_of
      all_right l = rw (legal, right, le-leb (header_size h + count) datagram_limit l)

  -- what the check refuses, writing refuses in the same way, and the output stays
  module _ (r : Refusal Fault) (e : told (Err r) ≡ checking h count) (out : List ℕ) where
    pub refused-alike : told (Err r) ≡ writing h count (length out)
    unfolding told checking writing answered first_of
    refused-alike = go (fault_of h count).number (fault_of h count).block _ _ e
      where
        go : (k b : ℕ) (v : Verdict) (n : ℕ) → told (Err r) ≡ answered (in_block b k) n → told (Err r) ≡ answered (first_of (in_block b k) v) n
        go zero b v n d = not_done (sym d)
        go (suc k) b v n d = d

    pub refused-stays : out ≡ output_after h (writing h count (length out)) out
    unfolding told output_after
    refused-stays = go (writing h count (length out)) refused-alike
      where
        go : (x : Writing) → told (Err r) ≡ x → out ≡ output_after h x out
        go (done n) d = not_done (sym d)
        go (rejected g q i) d = refl

  -- a check that is done says that the record is valid, and its header's octets
  pub valid-done : (n : OctetSize) → told (Ok n) ≡ checking h count → ((fault_of h count).number ≡ 0) × (header_size h ≡ n.0)
  unfolding told checking
  valid-done n e = answer-done (fault_of h count) (header_size h) n.0 (sym e)

  pub valid-fields : (fault_of h count).number ≡ 0 → fields_fault h ≡ 0
  unfolding fault_of
  valid-fields v = (first_fine (plain (fields_fault h)) _ v).0

  -- a record that is not refused
  module _ (valid : (fault_of h count).number ≡ 0) (out : List ℕ) where
    pub no_room : length out < header_size h → (rejected 11 0 0 ≡ writing h count (length out)) × (out ≡ output_after h (writing h count (length out)) out)
    unfolding writing answered first_of output_after
    no_room l = (rw (valid, lt-leb (header_size h) (length out) l), rw (valid, lt-leb (header_size h) (length out) l))

    pub is-written : header_size h ≤ length out → (done (header_size h) ≡ writing h count (length out)) × (header_of h ++ drop (header_size h) out ≡ output_after h (writing h count (length out)) out)
    unfolding writing answered first_of output_after
    is-written l = (rw (valid, le-leb (header_size h) (length out) l), rw (valid, le-leb (header_size h) (length out) l))
