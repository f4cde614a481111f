-- `bits::read_bits` meets its contract: a place is bit k % 8 of octet k / 8, so each way reads the field at the place. Assumes nothing.
use mathlib.Core.Path.{ap, ◌∙◌}
use Prim.Native.Nat.{ℕ}
use Rattle.bits.specs.Bits.{field}
use Rattle.bits.proofs.Steps.{in-octet}
use Rattle.bits.proofs.read_bits.Goals as goal

pub returns-then-skip-w-le8 : goal.returns-then-skip-w-le8
returns-then-skip-w-le8 c =
    let a = c.args in
    c.read_one.ensures ∙ ap (λ (k : ℕ). field a.s.now k a.w) (in-octet a.at.0)

pub returns-then-skip-w-le16 : goal.returns-then-skip-w-le16
returns-then-skip-w-le16 c =
    let a = c.args in
    c.read_two.ensures ∙ ap (λ (k : ℕ). field a.s.now k a.w) (in-octet a.at.0)
