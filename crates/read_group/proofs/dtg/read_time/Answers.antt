-- `read_group::dtg::read_time` meets its contract. Assumes nothing.
use mathlib.Core.Path.{refl}
use native.Mathlib.Omega.{arith}
use Rattle.codec.proofs.Compose.{stopping}
use Rattle.into.proofs.Ready.{ready-none, ready-next, ready-all}
use Rattle.into.proofs.Telling.{telling, into-stop, into-tell}
use Rattle.header.specs.Table.{time}
use Rattle.record_octets.specs.Record.{time_octets}
use Rattle.read_group.proofs.dtg.read_time.Goals as goal

pub returns-in_err-at : goal.returns-in_err-at
unfolding time time_octets
returns-in_err-at c = into-stop (record { hour = 0; minute = 0; second = 0 }) _ c.in_err-at.field-0.0 c.from_residual.ensures.1 (search (stopping, c.in_err-at.ensures.told) depth 14 fits 6000)

pub returns-in_err-at-2 : goal.returns-in_err-at-2
unfolding time time_octets
returns-in_err-at-2 c = into-stop (record { hour = 0; minute = 0; second = 0 }) _ c.in_err-at-2.field-0.0 c.from_residual-in_err-at-2.ensures.1 (search (stopping, c.in_ok-at.ensures.told, c.in_err-at-2.ensures.told) depth 14 fits 6000)

pub returns : goal.returns
unfolding time time_octets
returns c = into-tell (record { hour = c.in_ok-at.ensures.value; minute = c.in_ok-at-2.ensures.value; second = c.read_word-3.ensures.value }) _ (search (telling, refl, c.read_word-3.ensures.told, c.in_ok-at.ensures.told, c.in_ok-at-2.ensures.told) depth 14 fits 6000) c.read_word-3.ensures.held (λ h. (ready-all (ready-next 4 (ready-next 4 (ready-next 4 (ready-none 12 c.args.x.now c.requires.0) (omega arith) _ _ c.x-1.given.0 c.in_ok-at.ensures.held.0) (omega arith) _ _ c.x-2-1.given.0 c.in_ok-at-2.ensures.held.0) (omega arith) _ _ c.x-3-1.given.0 h.0), record { hour = c.in_ok-at.ensures.held.1; minute = c.in_ok-at-2.ensures.held.1; second = h.1 }))
