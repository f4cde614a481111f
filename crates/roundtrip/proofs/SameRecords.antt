-- Demand 2: the same records, whatever their unused cells hold, get the same answer of the check and of writing, and the same output. The hypothesis is
-- document 01's sameness of two records. Assumes nothing else.
use Prim.Native.Nat.{ℕ, zero, suc}
use mathlib.Core.Path.{◌≡◌, refl, ap, sym, ◌∙◌}
use mathlib.Core.Bool.{true}
use mathlib.Core.List.{List, ◌++◌}
use lib.ListN.{length, drop}
use native.Mathlib.Omega.{arith}
use Rattle.codec.specs.Codec.{first, viewed, ◌then_by◌}
use Rattle.codec.specs.Verdict.{first_of}
use Rattle.codec.proofs.Lawful.{same_check, same_bits}
use Rattle.header.specs.Table.{maybe, wire}
use Rattle.header.specs.Rules.{setting_of}
use Rattle.header.specs.Sizes.{judgement}
use Rattle.header.specs.Same.{Same, header_norm}
use Rattle.header.specs.declared.Header.{Header}
use Rattle.header.proofs.Lawful.{wire-lawful}
use Rattle.header.proofs.Same.{same-norm}
use Rattle.header.proofs.Unused.{same-setting, judgement-norm}
use Rattle.writer.specs.Writing.{wire_of, fields_end, header_size, header_bits, header_of, fields_fault, record_verdict, fault_of, Writing, answered, done, rejected, checking, writing, output_after}
use Rattle.writer.proofs.Parts.{size-legal, wire-legal, size-bounded}
use Rattle.writer.proofs.Ways.{valid-fields}

-- the header size's number is always legal
fields-wire : (h : Header) → wire.check (wire_of h 0) ≡ fields_fault h
unfolding wire viewed ◌then_by◌ first
fields-wire h = rw (size-legal h.sized 0 (omega arith))

-- a record is judged as the same with its unused cells 0
norm-verdict : (h : Header) (count : ℕ) → judgement (setting_of h) true count (header_norm h).blocks ≡ record_verdict h count
unfolding header_norm
norm-verdict h count = judgement-norm h.front.version (setting_of h) true count h.blocks

module _ (x y : Header) (same : Same x y) where
  norms : header_norm x ≡ header_norm y
  norms = same-norm x y same

  wires : (n : ℕ) → wire.norm (wire_of x n) ≡ wire.norm (wire_of y n)
  unfolding header_norm wire viewed ◌then_by◌
  wires n =
      λ i. record { front = (norms i).front; size = (maybe 16 0 65535).norm (record { present = (norms i).sized; value = n }); blocks = (norms i).blocks }

  same-fields : fields_fault x ≡ fields_fault y
  same-fields = sym (fields-wire x) ∙ same_check wire-lawful (wire_of x 0) (wire_of y 0) (wires 0) ∙ fields-wire y

  same-verdict : (count : ℕ) → record_verdict x count ≡ record_verdict y count
  same-verdict count = sym (clean-verdict x) ∙ ap (λ (h : Header). record_verdict h count) norms ∙ clean-verdict y
    where
      clean-verdict : (h : Header) → record_verdict (header_norm h) count ≡ record_verdict h count
      clean-verdict h = rw (same-setting h) (norm-verdict h count)

  -- of a record whose fields are legal, the bits and the octets
  module _ (fine : fields_fault x ≡ 0) where
    bits : (n : ℕ) → wire.check (wire_of x n) ≡ 0 → wire.write (wire_of x n) ≡ wire.write (wire_of y n)
    bits n l = same_bits wire-lawful (wire_of x n) (wire_of y n) l (wires n)

    same-end : fields_end x ≡ fields_end y
    same-end =
        sym (wire-lawful.sized (wire_of x 0)) ∙ ap length (bits 0 (wire-legal x fine 0 (omega arith))) ∙ wire-lawful.sized (wire_of y 0)

    pub same-header : header_of x ≡ header_of y
    unfolding header_of header_bits
    same-header =
        let b = bits (header_size x) (wire-legal x fine (header_size x) (omega (arith, size-bounded x fine))) in
        rw (b, same-end)

  -- the first refusal, and the octets where there is none
  pub same-fault : (count : ℕ) → fault_of x count ≡ fault_of y count
  unfolding fault_of first_of
  same-fault count = go (fields_fault x) refl
    where
      go : (k : ℕ) → fields_fault x ≡ k → fault_of x count ≡ fault_of y count
      go zero e = rw (← same-fields, ← (same-verdict count), ← (same-end e))
      go (suc k) e = rw (← same-fields, e)

  module _ (count : ℕ) where
    fine : (fault_of x count).number ≡ 0 → fields_fault x ≡ 0
    fine = valid-fields x count

    pub same-checking : checking x count ≡ checking y count
    unfolding checking answered
    same-checking = go (fault_of x count).number refl
      where
        go : (k : ℕ) → (fault_of x count).number ≡ k → checking x count ≡ checking y count
        go zero e = rw (← (same-fault count), ← (same-end (fine e)))
        go (suc k) e = rw (← (same-fault count), e)

    pub same-writing : (room : ℕ) → writing x count room ≡ writing y count room
    unfolding writing answered first_of
    same-writing room = go (fault_of x count).number refl
      where
        go : (k : ℕ) → (fault_of x count).number ≡ k → writing x count room ≡ writing y count room
        go zero e = rw (← (same-fault count), ← (same-end (fine e)))
        go (suc k) e = rw (← (same-fault count), e)

    pub same-output : (out : List ℕ) → output_after x (writing x count (length out)) out ≡ output_after y (writing y count (length out)) out
    unfolding writing answered first_of output_after
    same-output out = rw (← (same-writing (length out))) (go (fault_of x count).number refl)
      where
        by : (a : Writing) → header_of x ≡ header_of y → output_after x a out ≡ output_after y a out
        by (done n) e = ap (λ (l : List ℕ). l ++ drop n out) e
        by (rejected f p b) e = refl

        go : (k : ℕ) → (fault_of x count).number ≡ k → output_after x (writing x count (length out)) out ≡ output_after y (writing x count (length out)) out
        go zero e = by (writing x count (length out)) (same-header (fine e))
        go (suc k) e = rw e
