-- `bits::read_one` meets its contract: the field is the part of its one octet. Assumes nothing.
use mathlib.Core.Path.{◌≡◌, sym, ap, ◌∙◌}
use native.Mathlib.Omega.{arith}
use Prim.Native.Nat.{◌+◌, ◌*◌}
use Rattle.bits.specs.Bits.{field}
use Rattle.bits.proofs.Fields.{field-none, fragment-field}
use Rattle.bits.proofs.read_one.Goals as goal

pub returns-then-w-eq0 : goal.returns-then-w-eq0
returns-then-w-eq0 c =
    let a = c.args in
    let none : a.w ≡ 0 = omega arith in
    sym (ap (field a.s.now (8 * a.octet + a.skip)) none ∙ field-none a.s.now (8 * a.octet + a.skip))

pub returns : goal.returns
returns c =
    let a = c.args in
    c.fragment.ensures ∙ sym (fragment-field a.s.now a.octet a.skip a.w (omega arith) (omega arith))
