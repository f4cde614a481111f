-- `read_group::times::read_requests` meets its contract. Assumes nothing.
use mathlib.Core.Path.{refl}
use native.Mathlib.Omega.{arith}
use Rattle.codec.proofs.Compose.{stopping}
use Rattle.into.proofs.Ready.{ready-none, ready-next, ready-all}
use Rattle.into.proofs.Telling.{telling, into-stop, into-tell}
use Rattle.header.specs.Table.{requests}
use Rattle.header.specs.Zero.{no_requests}
use Rattle.record_octets.specs.Record.{requests_octets}
use Rattle.read_group.proofs.times.read_requests.Goals as goal

pub returns-in_err-at : goal.returns-in_err-at
unfolding requests requests_octets
returns-in_err-at c = into-stop no_requests _ c.in_err-at.field-0.0 c.from_residual.ensures.1 (search (stopping, c.in_err-at.ensures.told) depth 14 fits 6000)

pub returns-in_err-at-2 : goal.returns-in_err-at-2
unfolding requests requests_octets
returns-in_err-at-2 c = into-stop no_requests _ c.in_err-at-2.field-0.0 c.from_residual-in_err-at-2.ensures.1 (search (stopping, c.in_ok-at.ensures.told, c.in_err-at-2.ensures.told) depth 14 fits 6000)

pub returns : goal.returns
unfolding requests requests_octets
returns c = into-tell (record { machine = c.in_ok-at.ensures.value; acknowledge = c.in_ok-at-2.ensures.value; reply = c.read_mark-3.ensures.value }) _ (search (telling, refl, c.read_mark-3.ensures.told, c.in_ok-at.ensures.told, c.in_ok-at-2.ensures.told) depth 14 fits 6000) c.read_mark-3.ensures.held (λ h. (ready-all (ready-next 1 (ready-next 1 (ready-next 1 (ready-none 3 c.args.x.now c.requires.0) (omega arith) _ _ c.x-1.given.0 c.in_ok-at.ensures.held.0) (omega arith) _ _ c.x-2-1.given.0 c.in_ok-at-2.ensures.held.0) (omega arith) _ _ c.x-3-1.given.0 h.0), tt))
