-- `read_group::format::read_identity` meets its contract. Assumes nothing.
use native.Mathlib.Omega.{arith}
use Rattle.codec.proofs.Compose.{stopping}
use Rattle.into.proofs.Ready.{ready-none, ready-next, ready-all}
use Rattle.into.proofs.Telling.{telling, into-stop, into-tell}
use Rattle.header.specs.Table.{identity}
use Rattle.header.specs.Zero.{no_identity}
use Rattle.record_octets.specs.Record.{identity_octets}
use Rattle.read_group.proofs.format.read_identity.Goals as goal

pub returns-in_err-at : goal.returns-in_err-at
unfolding identity identity_octets
returns-in_err-at c = into-stop no_identity _ c.in_err-at.field-0.0 c.from_residual.ensures.1 (search (stopping, c.in_err-at.ensures.told) depth 14 fits 6000)

pub returns-in_err-at-2 : goal.returns-in_err-at-2
unfolding identity identity_octets
returns-in_err-at-2 c = into-stop no_identity _ c.in_err-at-2.field-0.0 c.from_residual-in_err-at-2.ensures.1 (search (stopping, c.in_ok-at.ensures.told, c.in_err-at-2.ensures.told) depth 14 fits 6000)

pub returns : goal.returns
unfolding identity identity_octets
returns c = into-tell (record { fad = c.in_ok-at.ensures.value; number = c.in_ok-at-2.ensures.value; subtype = c.read_optional.ensures.value }) _ (search (telling, c.read_optional.ensures.told, c.in_ok-at.ensures.told, c.in_ok-at-2.ensures.told) depth 14 fits 6000) c.read_optional.ensures.held (λ h. (ready-all (ready-next 8 (ready-next 4 (ready-next 4 (ready-none 16 c.args.x.now c.requires.0) (omega arith) _ _ c.x-1.given.0 c.in_ok-at.ensures.held.0) (omega arith) _ _ c.x-2-1.given.0 c.in_ok-at-2.ensures.held.0) (omega arith) _ _ c.x-3-1.given.0 h.0), record { fad = c.in_ok-at.ensures.held.1; number = c.in_ok-at-2.ensures.held.1; subtype = h.1 }))
