-- `bits::write_one` meets its contract: the field is the part of its one octet. Assumes nothing.
use mathlib.Core.Path.{◌≡◌, ap, ◌∙◌}
use Prim.Native.Nat.{ℕ, ◌+◌, ◌*◌}
use native.Mathlib.Omega.{arith}
use borrow.Author.Rules.{rules}
use Rattle.bits.specs.Bits.{low_bits, bits_of, splice}
use Rattle.bits.proofs.WriteStep.{part-lt, none_written, one_written}
use Rattle.bits.proofs.write_one.Goals as goal

pub returns-then-w-eq0 : goal.returns-then-w-eq0
returns-then-w-eq0 c =
    let a = c.args in
    let none : 0 ≡ a.w = omega arith in
    none_written a.out.now (8 * a.octet + a.skip) a.v ∙ ap (λ (k : ℕ). splice (bits_of a.out.now) (8 * a.octet + a.skip) (low_bits k a.v)) none

pub patched-requires : goal.patched-requires
patched-requires c = (search rules, part-lt _ c.args.w c.fragment-f.result c.fragment-f.ensures)

pub returns : goal.returns
returns c =
    let a = c.args in
    one_written a.out.now a.v a.w a.octet a.skip c.fragment-f.result c.patched.result (omega arith) (omega arith) c.fragment-f.ensures c.patched.ensures
