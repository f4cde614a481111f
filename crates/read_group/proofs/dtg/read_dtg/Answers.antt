-- `read_group::dtg::read_dtg` meets its contract. Assumes nothing.
use mathlib.Core.Path.{refl}
use native.Mathlib.Omega.{arith}
use Rattle.codec.proofs.Compose.{stopping}
use Rattle.into.proofs.Ready.{ready-none, ready-part, ready-part-long, ready-next, ready-all}
use Rattle.into.proofs.Telling.{telling, into-stop, into-tell}
use Rattle.header.specs.Table.{dtg}
use Rattle.header.specs.Zero.{no_dtg}
use Rattle.record_octets.specs.Record.{dtg_octets}
use Rattle.read_group.proofs.dtg.read_dtg.Goals as goal

pub returns-in_err-at : goal.returns-in_err-at
unfolding dtg dtg_octets
returns-in_err-at c = into-stop no_dtg _ c.in_err-at.field-0.0 c.from_residual.ensures.1 (search (stopping, c.in_err-at.ensures.told) depth 14 fits 6000)

pub read_date-requires : goal.read_date-requires
read_date-requires c = (ready-part 12 (ready-none 24 c.args.x.now c.requires.0) (omega arith), ready-part-long 12 (ready-none 24 c.args.x.now c.requires.0) (omega arith))

pub read_time-requires : goal.read_time-requires
read_time-requires c = (ready-part 12 (ready-next 12 (ready-none 24 c.args.x.now c.requires.0) (omega arith) _ _ c.x-1.given.0 c.in_ok-at.ensures.held.0) (omega arith), ready-part-long 12 (ready-next 12 (ready-none 24 c.args.x.now c.requires.0) (omega arith) _ _ c.x-1.given.0 c.in_ok-at.ensures.held.0) (omega arith))

pub returns : goal.returns
unfolding dtg dtg_octets
returns c = into-tell (record { date = c.in_ok-at.ensures.value; time = c.read_time.ensures.value }) _ (search (telling, refl, c.read_time.ensures.told, c.in_ok-at.ensures.told) depth 14 fits 6000) c.read_time.ensures.held (λ h. (ready-all (ready-next 12 (ready-next 12 (ready-none 24 c.args.x.now c.requires.0) (omega arith) _ _ c.x-1.given.0 c.in_ok-at.ensures.held.0) (omega arith) _ _ c.x-2-1.given.0 h.0), record { date = c.in_ok-at.ensures.held.1; time = h.1 }))
