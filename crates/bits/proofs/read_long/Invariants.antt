-- `bits::read_long` meets its contract. The invariant: the number so far is the field of the bits done. Assumes nothing.
use mathlib.Core.Path.{◌≡◌}
use Prim.Native.Nat.{◌≤◌}
use Rattle.bits.specs.Bits.{field}
use Rattle.bits.proofs.Steps.{done_at, steps_of}
use Rattle.bits.proofs.read_long.Given as goal

abbrev pub invariant-loop-j : goal.invariant-loop-j
invariant-loop-j l = (l.j ≤ steps_of l.k l.w) × (l.done ≡ done_at l.k l.w l.j) × (l.number ≡ field l.s l.k l.done)
