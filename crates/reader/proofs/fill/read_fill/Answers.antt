-- `reader::fill::read_fill` meets its contract. Assumes nothing.
use Prim.Native.Nat.{ℕ}
use mathlib.Core.Path.{ap, sym, ◌∙◌}
use native.Mathlib.Omega.{arith}
use Rattle.bits.specs.Datagrams.{bits_in}
use Rattle.codec.proofs.Compose.{handed}
use Rattle.reader.specs.Reading.{read_fill}
use Rattle.reader.proofs.FillBits.{fill_more, fill_stop, fill_none}
use Rattle.reader.proofs.fill.read_fill.Goals as goal

pub loop-init : goal.loop-init
loop-init c = ap (λ (n : ℕ). read_fill n (bits_in c.args.s) c.args.end.0) (omega arith)

pub returns-in_err-place : goal.returns-in_err-place
returns-in_err-place c = rw (handed _ c.in_err-place.field-0.0 c.from_residual.ensures.1) (fill_stop _ _ _ _ _ c.loop-test.true c.in_err-place.ensures ∙ sym c.loop.invariant)

pub loop-preserved : goal.loop-preserved
loop-preserved c = c.loop.invariant ∙ fill_more _ _ _ _ _ c.loop-test.true c.in_ok-place.ensures

pub returns : goal.returns
returns c = fill_none _ _ _ _ (omega arith) ∙ sym c.loop.invariant
