-- `writer::wire::write_fill` meets its contract. Assumes nothing.
use mathlib.Core.Path.{◌≡◌, ap, ◌∙◌}
use Prim.Native.Nat.{ℕ, ◌-◌, ◌%◌}
use native.Mathlib.Omega.{arith}
use mathlib.Core.Bool.{false}
use lib.ListN.{replicate}
use Rattle.bits.specs.Bits.{bits_of, splice}
use Rattle.bits.specs.Units.{fill_bits}
use Rattle.writer.proofs.Packed.{zero_bits}
use Rattle.writer.proofs.wire.write_fill.Goals as goal

pub returns : goal.returns
returns c =
    let z = zero_bits ((8 - c.args.end.0 % 8) % 8) in
    let e : (8 - c.args.end.0 % 8) % 8 ≡ fill_bits c.args.end.0 = omega arith in
    c.write_bits.ensures ∙ ap (splice (bits_of c.args.out.now) c.args.end.0) (z ∙ ap (λ (k : ℕ). replicate k false) e)
