-- `hexadecimal::put_line` meets its contract. The invariant: the first i octets are put. Assumes nothing.
use mathlib.Core.Path.{sym}
use native.Mathlib.Omega.{arith}
use Rattle.hexadecimal.proofs.Filling.{filling-none, filling-more, filling-all, line-fits, octets-count}
use Rattle.hexadecimal.proofs.put_line.Goals as goal

pub loop-i-init : goal.loop-i-init
loop-i-init c = filling-none _ _

pub bounds-out-i : goal.bounds-out-i
bounds-out-i c =
    omega (arith, c.loop-i.invariant.room, c.requires.1, line-fits c.args.line.now c.requires.0)

pub loop-i-preserved : goal.loop-i-preserved
loop-i-preserved c =
    let v = c.loop-i.invariant in
    filling-more _ _ _ _ _ _ v (omega (arith, v.room, c.requires.1, line-fits c.args.line.now c.requires.0)) (omega arith) c.octet_of.ensures

pub shape_of-out : goal.shape_of-out
shape_of-out c = c.loop-i.invariant.room

pub returns : goal.returns
returns c =
    (sym (octets-count c.args.line.now), filling-all c.args.line.now _ _ _ c.requires.0 c.loop-i.invariant (omega arith))
