-- `read_group::times::read_times` meets its contract. Assumes nothing.
use mathlib.Core.Path.{refl}
use native.Mathlib.Omega.{arith}
use Rattle.codec.proofs.Compose.{stopping}
use Rattle.into.proofs.Ready.{ready-none, ready-part, ready-part-long, ready-next, ready-all}
use Rattle.into.proofs.Telling.{telling, into-stop, into-tell}
use Rattle.header.specs.Table.{times}
use Rattle.header.specs.Zero.{no_times}
use Rattle.record_octets.specs.Record.{times_octets}
use Rattle.read_group.proofs.times.read_times.Goals as goal

pub returns-in_err-at : goal.returns-in_err-at
unfolding times times_octets
returns-in_err-at c = into-stop no_times _ c.in_err-at.field-0.0 c.from_residual.ensures.1 (search (stopping, c.in_err-at.ensures.told) depth 14 fits 6000)

pub returns-in_err-at-2 : goal.returns-in_err-at-2
unfolding times times_octets
returns-in_err-at-2 c = into-stop no_times _ c.in_err-at-2.field-0.0 c.from_residual-in_err-at-2.ensures.1 (search (stopping, c.in_ok-at.ensures.told, c.in_err-at-2.ensures.told) depth 14 fits 6000)

pub read_optional_stamp-requires : goal.read_optional_stamp-requires
read_optional_stamp-requires c = (ready-part 36 (ready-none 68 c.args.x.now c.requires.0) (omega arith), ready-part-long 36 (ready-none 68 c.args.x.now c.requires.0) (omega arith))

pub read_optional_dtg-requires : goal.read_optional_dtg-requires
read_optional_dtg-requires c = (ready-part 28 (ready-next 36 (ready-none 68 c.args.x.now c.requires.0) (omega arith) _ _ c.x-1.given.0 c.in_ok-at.ensures.held.0) (omega arith), ready-part-long 28 (ready-next 36 (ready-none 68 c.args.x.now c.requires.0) (omega arith) _ _ c.x-1.given.0 c.in_ok-at.ensures.held.0) (omega arith))

pub read_optional_requests-requires : goal.read_optional_requests-requires
read_optional_requests-requires c = (ready-part 4 (ready-next 28 (ready-next 36 (ready-none 68 c.args.x.now c.requires.0) (omega arith) _ _ c.x-1.given.0 c.in_ok-at.ensures.held.0) (omega arith) _ _ c.x-2-1.given.0 c.in_ok-at-2.ensures.held.0) (omega arith), ready-part-long 4 (ready-next 28 (ready-next 36 (ready-none 68 c.args.x.now c.requires.0) (omega arith) _ _ c.x-1.given.0 c.in_ok-at.ensures.held.0) (omega arith) _ _ c.x-2-1.given.0 c.in_ok-at-2.ensures.held.0) (omega arith))

pub returns : goal.returns
unfolding times times_octets
returns c = into-tell (record { origin = c.in_ok-at.ensures.value; perish = c.in_ok-at-2.ensures.value; requests = c.read_optional_requests.ensures.value }) _ (search (telling, refl, c.read_optional_requests.ensures.told, c.in_ok-at.ensures.told, c.in_ok-at-2.ensures.told) depth 14 fits 6000) c.read_optional_requests.ensures.held (λ h. (ready-all (ready-next 4 (ready-next 28 (ready-next 36 (ready-none 68 c.args.x.now c.requires.0) (omega arith) _ _ c.x-1.given.0 c.in_ok-at.ensures.held.0) (omega arith) _ _ c.x-2-1.given.0 c.in_ok-at-2.ensures.held.0) (omega arith) _ _ c.x-3-1.given.0 h.0), record { origin = c.in_ok-at.ensures.held.1; perish = c.in_ok-at-2.ensures.held.1 }))
