-- `bits::write_long` meets its contract. The invariant: the bits done are spliced in. Assumes nothing.
use mathlib.Core.Path.{◌≡◌}
use Prim.Native.Nat.{◌≤◌}
use lib.ListN.{length}
use Rattle.bits.specs.Bits.{low_bits, bits_of, splice}
use Rattle.bits.proofs.Steps.{done_at, steps_of}
use Rattle.bits.proofs.write_long.Given as goal

abbrev pub invariant-loop-j : goal.invariant-loop-j
invariant-loop-j l = (l.j ≤ steps_of l.k l.w) × (l.done ≡ done_at l.k l.w l.j) × (length l.out ≡ length l.initial.out) × (bits_of l.out ≡ splice (bits_of l.initial.out) l.k (low_bits l.done l.v))
