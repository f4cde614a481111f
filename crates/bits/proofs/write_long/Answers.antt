-- `bits::write_long` meets its contract. The invariant: the bits done are spliced in. Assumes nothing.
use mathlib.Core.Path.{refl, ap, ◌∙◌}
use Prim.Native.Nat.{ℕ, ◌+◌, ◌/◌, ◌<◌}
use native.Mathlib.Omega.{arith}
use lib.ListN.{length, length-set}
use borrow.Author.Rules.{rules}
use Rattle.bits.specs.Bits.{low_bits, bits_of, splice}
use Rattle.bits.proofs.Steps.{Turn, turn, at-end, first_of}
use Rattle.bits.proofs.WriteStep.{part-lt, write-more, none_written}
use Rattle.bits.proofs.write_long.Goals as goal
use Rattle.bits.proofs.write_long.Goals.{After-min-n}

pub loop-j-init : goal.loop-j-init
loop-j-init c = (omega arith, omega arith, refl, none_written c.args.out.now c.args.at.0 c.args.v)

-- the numbers of a turn
the-turn : (c : After-min-n) → Turn c.args.at.0 c.args.w c.loop-j.j c.loop-j.done c.min-n.result
the-turn c =
    let a = c.args in
    turn a.at.0 a.w c.loop-j.j c.loop-j.done c.min-n.result c.loop-j-test.true c.loop-j.invariant.1 c.min-n.ensures

index : (c : After-min-n) → c.args.at.0 / 8 + c.loop-j.j < length c.loop-j.out
index c = omega arith

pub patched-requires : goal.patched-requires
patched-requires c =
    ((the-turn (goal.at.patched-requires c).After-min-n).within, part-lt _ c.min-n.result c.fragment-f.result c.fragment-f.ensures)

pub loop-j-preserved : goal.loop-j-preserved
loop-j-preserved c =
    let a = c.args in (
      search rules,
      (the-turn (goal.at.loop-j-preserved c).After-min-n).next,
      length-set c.loop-j.out (a.at.0 / 8 + c.loop-j.j) c.patched.result ∙ c.loop-j.invariant.2,
      write-more a.out.now c.loop-j.out a.at.0 a.v c.loop-j.done c.min-n.result (a.at.0 / 8 + c.loop-j.j) (first_of a.at.0 c.loop-j.done) c.fragment-f.result c.patched.result
          (index (goal.at.loop-j-preserved c).After-min-n) (the-turn (goal.at.loop-j-preserved c).After-min-n).within (the-turn (goal.at.loop-j-preserved c).After-min-n).place c.loop-j.invariant.3 c.fragment-f.ensures c.patched.ensures,
    )

pub returns : goal.returns
returns c =
    let a = c.args in
    c.loop-j.invariant.3 ∙ ap (λ (k : ℕ). splice (bits_of a.out.now) a.at.0 (low_bits k a.v)) (at-end a.at.0 a.w c.loop-j.j c.loop-j.done c.loop-j.invariant.0 c.loop-j-test.false c.loop-j.invariant.1)
