-- `read_group::dtg::read_stamp` meets its contract. Assumes nothing.
use mathlib.Core.Path.{refl}
use native.Mathlib.Omega.{arith}
use Rattle.codec.proofs.Compose.{stopping}
use Rattle.into.proofs.Ready.{ready-none, ready-part, ready-part-long, ready-next, ready-all}
use Rattle.into.proofs.Telling.{telling, into-stop, into-tell}
use Rattle.header.specs.Table.{stamp}
use Rattle.header.specs.Zero.{no_stamp}
use Rattle.record_octets.specs.Record.{stamp_octets}
use Rattle.read_group.proofs.dtg.read_stamp.Goals as goal

pub returns-in_err-at : goal.returns-in_err-at
unfolding stamp stamp_octets
returns-in_err-at c = into-stop no_stamp _ c.in_err-at.field-0.0 c.from_residual.ensures.1 (search (stopping, c.in_err-at.ensures.told) depth 14 fits 6000)

pub read_dtg-requires : goal.read_dtg-requires
read_dtg-requires c = (ready-part 24 (ready-none 32 c.args.x.now c.requires.0) (omega arith), ready-part-long 24 (ready-none 32 c.args.x.now c.requires.0) (omega arith))

pub returns : goal.returns
unfolding stamp stamp_octets
returns c = into-tell (record { dtg = c.in_ok-at.ensures.value; extension = c.read_optional.ensures.value }) _ (search (telling, refl, c.read_optional.ensures.told, c.in_ok-at.ensures.told) depth 14 fits 6000) c.read_optional.ensures.held (λ h. (ready-all (ready-next 8 (ready-next 24 (ready-none 32 c.args.x.now c.requires.0) (omega arith) _ _ c.x-1.given.0 c.in_ok-at.ensures.held.0) (omega arith) _ _ c.x-2-1.given.0 h.0), record { dtg = c.in_ok-at.ensures.held.1; extension = h.1 }))
