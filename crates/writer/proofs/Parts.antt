-- A legal record's parts are legal, and its fields end where the header size's number does not matter. Assumes nothing.
use Prim.Native.Nat.{ℕ, ◌+◌, ◌≤◌}
use mathlib.Core.Path.{◌≡◌, refl, ap, subst, subst⁻¹}
use mathlib.Core.Bool.{Bool, true, false}
use mathlib.Core.List.{List}
use borrow.Author.Tests.{le-leb}
use native.Mathlib.Omega.{arith}
use Rattle.codec.specs.Codec.{first, number, flag, nothing, present, viewed, ◌then_by◌}
use Rattle.codec.specs.Writes.{Room, Writes}
use Rattle.codec.proofs.Sequences.{first-zero}
use Rattle.optional.specs.Optionals.{optional_number}
use Rattle.header.specs.Table.{maybe, front, blocks, wire}
use Rattle.header.specs.declared.Blocks.{Blocks}
use Rattle.header.specs.declared.Header.{Header}
use Rattle.header.specs.declared.Wire.{Wire}
use Rattle.header.proofs.Bounds.{wire-bounded}
use Rattle.writer.specs.Writing.{wire_of, fields_end, header_size, fields_fault}

-- a number of 16 bits is legal
pub size-legal : (b : Bool) (n : ℕ) → n ≤ 65535 → (maybe 16 0 65535).check (record { present = b; value = n }) ≡ 0
unfolding optional_number viewed ◌then_by◌ flag first present number nothing
size-legal true n l = rw (le-leb 0 n (omega arith), le-leb n 65535 l)
size-legal false n l = refl

-- and has its bits
size-ends : (b : Bool) (n : ℕ) → (maybe 16 0 65535).size (record { present = b; value = n }) ≡ (maybe 16 0 65535).size (record { present = b; value = 0 })
unfolding optional_number viewed ◌then_by◌ flag present number nothing
size-ends true n = refl
size-ends false n = refl

-- 17 at most
pub size-short : (b : Bool) (n : ℕ) → (maybe 16 0 65535).size (record { present = b; value = n }) ≤ 17
unfolding optional_number viewed ◌then_by◌ flag present number nothing
size-short true n = omega arith
size-short false n = omega arith

-- blocks are judged, measured and written by a version as by an equal one
module _ {v w : ℕ} (g : Blocks) (e : v ≡ w) where
  pub check-by : (blocks v).check g ≡ (blocks w).check g
  check-by = ap (λ (k : ℕ). (blocks k).check g) e

  pub size-by : (blocks v).size g ≡ (blocks w).size g
  size-by = ap (λ (k : ℕ). (blocks k).size g) e

  pub room_by : (out : List ℕ) (p : ℕ) → Room out p ((blocks w).size g) → Room out p ((blocks v).size g)
  room_by out p r = subst⁻¹ (λ (n : ℕ). Room out p n) size-by r

  pub writes-by : (s t : List ℕ) (p q : ℕ) → Writes (blocks v) g s t p q → Writes (blocks w) g s t p q
  writes-by s t p q r = subst (λ (k : ℕ). Writes (blocks k) g s t p q) e r

module _ (h : Header) where
  pub ends-alike : (n : ℕ) → wire.size (wire_of h n) ≡ fields_end h
  unfolding wire viewed ◌then_by◌
  ends-alike n = ap (λ (k : ℕ). front.size h.front + (k + (blocks h.front.version).size h.blocks)) (size-ends h.sized n)

  module _ (fine : fields_fault h ≡ 0) where
    pub front-legal : front.check h.front ≡ 0
    front-legal = (first-zero (front.check h.front) ((blocks h.front.version).check h.blocks) fine).0

    pub blocks-legal : (blocks h.front.version).check h.blocks ≡ 0
    blocks-legal = (first-zero (front.check h.front) ((blocks h.front.version).check h.blocks) fine).1

    pub wire-legal : (n : ℕ) → n ≤ 65535 → wire.check (wire_of h n) ≡ 0
    unfolding wire viewed ◌then_by◌ first
    wire-legal n l = rw (front-legal, size-legal h.sized n l, blocks-legal)

    pub end-bounded : fields_end h ≤ 65536
    end-bounded = wire-bounded (wire_of h 0) (wire-legal 0 (omega arith))

    pub size-bounded : header_size h ≤ 8192
    size-bounded = omega (arith, end-bounded)

-- the parts of what the bits hold
pub wire-parts : (w : Wire) → wire.check w ≡ 0 → (front.check w.front ≡ 0) × ((blocks w.front.version).check w.blocks ≡ 0)
unfolding wire viewed ◌then_by◌
wire-parts w e =
    let a = first-zero (front.check w.front) _ e in
    (a.0, (first-zero ((maybe 16 0 65535).check w.size) ((blocks w.front.version).check w.blocks) a.1).1)
