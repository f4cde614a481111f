-- `bits::read_long` meets its contract. The invariant: the number so far is the field of the bits done. Assumes nothing.
use mathlib.Core.Path.{sym, ap, ◌∙◌}
use Prim.Native.Nat.{◌+◌, ◌/◌, ◌≤◌, ◌<◌}
use native.Mathlib.Omega.{arith}
use lib.ListN.{length}
use borrow.Author.Rules.{rules}
use Rattle.bits.specs.Bits.{field}
use Rattle.bits.proofs.Fields.{field-none}
use Rattle.bits.proofs.Steps.{Turn, turn, at-end, first_of}
use Rattle.bits.proofs.ReadStep.{read_more, read_fits}
use Rattle.bits.proofs.read_long.Goals as goal
use Rattle.bits.proofs.read_long.Goals.{After-fragment-f}

pub loop-j-init : goal.loop-j-init
loop-j-init c = (omega arith, omega arith, sym (field-none c.args.s.now c.args.at.0))

the-turn : (c : After-fragment-f) → Turn c.args.at.0 c.args.w c.loop-j.j c.loop-j.done c.min-n.result
the-turn c =
    let a = c.args in
    turn a.at.0 a.w c.loop-j.j c.loop-j.done c.min-n.result c.loop-j-test.true c.loop-j.invariant.1 c.min-n.ensures

index : (c : After-fragment-f) → c.args.at.0 / 8 + c.loop-j.j < length c.args.s.now
index c = omega arith

small : (c : After-fragment-f) → c.loop-j.done + c.min-n.result ≤ 32
small c =
    let inside = (the-turn c).inside in
    let w = c.requires.1 in
    omega arith

pub overflow_add-number : goal.overflow_add-number
overflow_add-number c =
    let a = c.args in
    record {
      fits = read_fits a.s.now a.at.0 c.loop-j.done c.min-n.result (a.at.0 / 8 + c.loop-j.j) (first_of a.at.0 c.loop-j.done) c.loop-j.number c.fragment-f.result
          (small (goal.at.overflow_add-number c).After-fragment-f) (index (goal.at.overflow_add-number c).After-fragment-f) (the-turn (goal.at.overflow_add-number c).After-fragment-f).within (the-turn (goal.at.overflow_add-number c).After-fragment-f).place c.loop-j.invariant.2 c.fragment-f.ensures;
    }

pub loop-j-preserved : goal.loop-j-preserved
loop-j-preserved c =
    let a = c.args in (
      search rules,
      (the-turn (goal.at.loop-j-preserved c).After-fragment-f).next,
      read_more a.s.now a.at.0 c.loop-j.done c.min-n.result (a.at.0 / 8 + c.loop-j.j) (first_of a.at.0 c.loop-j.done) c.loop-j.number c.fragment-f.result
          (small (goal.at.loop-j-preserved c).After-fragment-f) (index (goal.at.loop-j-preserved c).After-fragment-f) (the-turn (goal.at.loop-j-preserved c).After-fragment-f).within (the-turn (goal.at.loop-j-preserved c).After-fragment-f).place c.loop-j.invariant.2 c.fragment-f.ensures,
    )

pub returns : goal.returns
returns c =
    let a = c.args in
    c.loop-j.invariant.2 ∙ ap (field a.s.now a.at.0) (at-end a.at.0 a.w c.loop-j.j c.loop-j.done c.loop-j.invariant.0 c.loop-j-test.false c.loop-j.invariant.1)
