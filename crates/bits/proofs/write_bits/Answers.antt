-- `bits::write_bits` meets its contract: a place is bit k % 8 of octet k / 8, so each way writes the field at the place. Assumes nothing.
use mathlib.Core.Path.{◌≡◌, ap, ◌∙◌}
use mathlib.Core.List.{List}
use Prim.Native.Nat.{ℕ, ◌+◌, ◌*◌, ◌/◌, ◌%◌}
use Rattle.bits.specs.Bits.{low_bits, bits_of, splice}
use Rattle.bits.proofs.Steps.{in-octet}
use Rattle.bits.proofs.write_bits.Goals as goal

-- what is written from bit k % 8 of octet k / 8 on is written from place k on
at_place : (s t : List ℕ) (k w v : ℕ) → bits_of t ≡ splice (bits_of s) (8 * (k / 8) + k % 8) (low_bits w v) → bits_of t ≡ splice (bits_of s) k (low_bits w v)
at_place s t k w v e = e ∙ ap (λ (m : ℕ). splice (bits_of s) m (low_bits w v)) (in-octet k)

pub returns-then-skip-w-le8 : goal.returns-then-skip-w-le8
returns-then-skip-w-le8 c =
    let a = c.args in
    at_place a.out.now _ a.at.0 a.w a.v c.write_one.ensures

pub returns-then-skip-w-le16 : goal.returns-then-skip-w-le16
returns-then-skip-w-le16 c =
    let a = c.args in
    at_place a.out.now _ a.at.0 a.w a.v c.write_two.ensures
