-- `reader::read_into` meets its contract. Assumes nothing.
use mathlib.Core.Path.{sym, ◌∙◌}
use native.Mathlib.Omega.{arith}
use Rattle.reader.specs.Reading.{record_of}
use Rattle.reader.proofs.Accepts.{reading-long, reading-fields, reading-fill, reading-settled, octets-within}
use Rattle.reader.proofs.Judging.{settled-right, settled-failed}
use Rattle.reader.proofs.Filled.{ended, fills-refused, fills-stopped, held, fills-done, told-done, told-plain, told-stopped, told-broken}
use Rattle.reader.proofs.read_into.Goals as goal

pub returns-then-datagram-gt65507 : goal.returns-then-datagram-gt65507
returns-then-datagram-gt65507 c = ended _ _ _ _ (told-plain _ _ c.from.ensures) (reading-long _ (omega (arith, c.if-datagram-gt65507.true))) (fills-refused _ _ _ _)

pub returns-in_err-size : goal.returns-in_err-size
returns-in_err-size c = ended _ _ _ _ (told-stopped _ _ c.from_residual.ensures.1) (reading-fields _ (omega (arith, c.if-datagram-gt65507.false)) _ _ c.in_err-size.ensures.told) (fills-stopped _ _)

pub returns-in_err-read_fill : goal.returns-in_err-read_fill
returns-in_err-read_fill c =
    ended _ _ _ _ (told-stopped _ _ c.from_residual-in_err-read_fill.ensures.1)
    (reading-fill _ (omega (arith, c.if-datagram-gt65507.false)) _ _ c.in_ok-size.ensures.told _ c.in_err-read_fill.ensures) (fills-stopped _ _)

pub overflow_sub-behind : goal.overflow_sub-behind
overflow_sub-behind c = omega (arith, octets-within _ (omega (arith, c.if-datagram-gt65507.false)) _ _ c.in_ok-size.ensures.told, c.whole_octets-length.ensures)

pub returns-in_err-judge : goal.returns-in_err-judge
returns-in_err-judge c =
    let h = c.in_ok-size.ensures.held in
    let w = c.in_ok-size.ensures.value in
    let i = held (record_of w) _ h.1 h.2 in
    let d = rw (i, sym h.0, c.whole_octets-length.ensures) at c.in_err-judge.ensures in
    ended _ _ _ _ (told-broken _ _ c.from_residual-in_err-judge.ensures.1) (reading-settled _ (omega (arith, c.if-datagram-gt65507.false)) _ _ c.in_ok-size.ensures.told _ c.in_ok-read_fill.ensures ∙ settled-failed w _ _ _ d) (fills-refused _ _ _ _)

pub returns : goal.returns
returns c =
    let h = c.in_ok-size.ensures.held in
    let w = c.in_ok-size.ensures.value in
    let i = held (record_of w) _ h.1 h.2 in
    let d = rw (i, sym h.0, c.whole_octets-length.ensures) at c.in_ok-judge.ensures in
    ended _ _ _ _ (told-done _ _ _ c.whole_octets-length.ensures) (reading-settled _ (omega (arith, c.if-datagram-gt65507.false)) _ _ c.in_ok-size.ensures.told _ c.in_ok-read_fill.ensures ∙ settled-right w _ _ d) (fills-done (record_of w) _ h.1 h.2 _)
