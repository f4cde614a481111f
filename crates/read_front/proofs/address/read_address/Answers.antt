-- `read_front::address::read_address` meets its contract. Assumes nothing.
use native.Mathlib.Omega.{arith}
use Rattle.codec.proofs.Compose.{stopping}
use Rattle.into.proofs.Ready.{ready-none, ready-part, ready-part-long, ready-next, ready-all}
use Rattle.into.proofs.Telling.{telling, into-stop, into-tell}
use Rattle.header.specs.Table.{address}
use Rattle.header.specs.Zero.{no_address}
use Rattle.record_octets.specs.Record.{address_octets}
use Rattle.read_front.proofs.address.read_address.Goals as goal

pub returns-in_err-urn : goal.returns-in_err-urn
unfolding address
returns-in_err-urn c = into-stop no_address _ c.in_err-urn.field-0.0 c.from_residual.ensures.1 (search (stopping, c.in_err-urn.ensures) depth 14 fits 6000)

pub read_unit_name-requires : goal.read_unit_name-requires
read_unit_name-requires c = (ready-part 72 (ready-next 8 (ready-none 80 c.args.x.now c.requires.0) (omega arith) _ _ c.x-1.given.0 c.store_optional.ensures.octets) (omega arith), ready-part-long 72 (ready-next 8 (ready-none 80 c.args.x.now c.requires.0) (omega arith) _ _ c.x-1.given.0 c.store_optional.ensures.octets) (omega arith))

pub returns : goal.returns
unfolding address address_octets
returns c = into-tell (record { urn = c.in_ok-urn.urn; name = c.read_unit_name.ensures.value }) _ (search (telling, c.read_unit_name.ensures.told, c.in_ok-urn.ensures) depth 14) c.read_unit_name.ensures.held (λ h. (ready-all (ready-next 72 (ready-next 8 (ready-none 80 c.args.x.now c.requires.0) (omega arith) _ _ c.x-1.given.0 c.store_optional.ensures.octets) (omega arith) _ _ c.x-2-1.given.0 h.0), record { urn = c.store_optional.ensures.typed; name = h.1 }))
