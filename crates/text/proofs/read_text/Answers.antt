-- `text::read_text` meets its contract. Assumes nothing.
use native.Mathlib.Omega.{arith}
use mathlib.Core.Path.{sym}
use Rattle.bits.specs.Datagrams.{bits_in}
use Rattle.codec.specs.Refusals.{answer_of}
use Rattle.codec.proofs.Compose.{handed}
use Rattle.text.proofs.Reading.{reading-none, reading-stored, ended-full, ended-mark, text-refused, text-told}
use Rattle.text.proofs.read_text.Goals as goal

pub loop-n-init : goal.loop-n-init
loop-n-init c = let a = c.args in reading-none (bits_in a.s) a.at.0 a.most

pub returns-in_err-v : goal.returns-in_err-v
unfolding answer_of
returns-in_err-v c = rw (handed _ c.in_err-v.field-0.0 c.from_residual.ensures.1) (text-refused _ _ _ _ _ _ c.loop-n.invariant _ c.loop-n-test.true (sym c.in_err-v.ensures))

pub returns-then-v-eq-MARKER : goal.returns-then-v-eq-MARKER
unfolding answer_of
returns-then-v-eq-MARKER c =
    text-told _ _ _ _ _ _ _ c.requires (ended-mark _ _ _ _ _ _ c.loop-n.invariant c.in_ok-v.v c.in_ok-v.next.0 c.loop-n-test.true c.if-v-eq-MARKER.true (sym c.in_ok-v.ensures)) c.text_of.ensures

pub loop-n-preserved : goal.loop-n-preserved
unfolding answer_of
loop-n-preserved c = reading-stored _ _ _ _ _ _ c.loop-n.invariant c.in_ok-v.v c.in_ok-v.next.0 c.loop-n-test.true c.requires c.if-v-eq-MARKER.false (sym c.in_ok-v.ensures)

pub returns : goal.returns
returns c = text-told _ _ _ _ _ _ _ c.requires (ended-full _ _ _ _ _ _ c.loop-n.invariant (omega arith)) c.text_of-2.ensures
