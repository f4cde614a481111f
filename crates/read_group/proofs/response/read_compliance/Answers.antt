-- `read_group::response::read_compliance` meets its contract. Assumes nothing.
use native.Mathlib.Omega.{arith}
use Rattle.codec.proofs.Compose.{stopping}
use Rattle.into.proofs.Ready.{ready-none, ready-next, ready-all}
use Rattle.into.proofs.Telling.{telling, into-stop, into-tell}
use Rattle.header.specs.Table.{compliance}
use Rattle.header.specs.Zero.{no_number}
use Rattle.record_octets.specs.Record.{compliance_octets}
use Rattle.read_group.proofs.response.read_compliance.Goals as goal

pub returns-in_err-at : goal.returns-in_err-at
unfolding compliance compliance_octets
returns-in_err-at c = into-stop (record { code = 0; cantco = no_number; cantpro = no_number }) _ c.in_err-at.field-0.0 c.from_residual.ensures.1 (search (stopping, c.in_err-at.ensures.told) depth 14 fits 6000)

pub returns-in_err-at-2 : goal.returns-in_err-at-2
unfolding compliance compliance_octets
returns-in_err-at-2 c = into-stop (record { code = 0; cantco = no_number; cantpro = no_number }) _ c.in_err-at-2.field-0.0 c.from_residual-in_err-at-2.ensures.1 (search (stopping, c.in_ok-at.ensures.told, c.in_err-at-2.ensures.told) depth 14 fits 6000)

pub returns : goal.returns
unfolding compliance compliance_octets
returns c = into-tell (record { code = c.in_ok-at.ensures.value; cantco = c.in_ok-at-2.ensures.value; cantpro = c.read_optional-2.ensures.value }) _ (search (telling, c.read_optional-2.ensures.told, c.in_ok-at.ensures.told, c.in_ok-at-2.ensures.told) depth 14 fits 6000) c.read_optional-2.ensures.held (λ h. (ready-all (ready-next 8 (ready-next 8 (ready-next 4 (ready-none 20 c.args.x.now c.requires.0) (omega arith) _ _ c.x-1.given.0 c.in_ok-at.ensures.held.0) (omega arith) _ _ c.x-2-1.given.0 c.in_ok-at-2.ensures.held.0) (omega arith) _ _ c.x-3-1.given.0 h.0), record { code = c.in_ok-at.ensures.held.1; cantco = c.in_ok-at-2.ensures.held.1; cantpro = h.1 }))
