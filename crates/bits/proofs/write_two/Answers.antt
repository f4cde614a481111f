-- `bits::write_two` meets its contract: the first octet gets the low part of the number, the second the rest. Assumes nothing.
use Prim.Native.Nat.{◌-◌}
use native.Mathlib.Omega.{arith}
use lib.ListN.{length-set}
use borrow.Author.Rules.{rules}
use Rattle.bits.proofs.WriteStep.{part-lt, two-written}
use Rattle.bits.proofs.write_two.Goals as goal

pub patched-requires : goal.patched-requires
patched-requires c = (search rules, part-lt _ (8 - c.args.skip) c.fragment-low.result c.fragment-low.ensures)

pub bounds-out-next : goal.bounds-out-next
bounds-out-next c =
    let a = c.args in
    omega (arith, length-set a.out.now a.octet c.patched.result)

pub patched-requires-2 : goal.patched-requires-2
patched-requires-2 c =
    let a = c.args in
    (omega arith, part-lt _ (a.w - (8 - a.skip)) c.fragment-high.result c.fragment-high.ensures)

pub bounds-out-next-2 : goal.bounds-out-next-2
bounds-out-next-2 c =
    let a = c.args in
    omega (arith, length-set a.out.now a.octet c.patched.result)

pub returns : goal.returns
returns c =
    let a = c.args in
    two-written a.out.now a.v a.w a.octet a.skip c.fragment-low.result c.fragment-high.result c.patched.result c.patched-2.result
    c.requires.0 c.requires.1 c.requires.2 c.requires.3 c.fragment-low.ensures c.patched.ensures c.fragment-high.ensures c.patched-2.ensures
