-- `read_group::times::read_optional_dtg` meets its contract. Assumes nothing.
use mathlib.Core.Path.{refl}
use mathlib.Core.Bool.{false}
use native.Mathlib.Omega.{arith}
use lib.Dec.{lit<}
use Rattle.codec.proofs.Compose.{getting, left_out, stopping}
use Rattle.cells.specs.Cells.{word_octets, flag_octets, mark_octets}
use Rattle.into.proofs.Ready.{ready-none, ready-part, ready-part-long, ready-next, ready-all}
use Rattle.into.proofs.Telling.{telling, into-stop, into-tell, into-got}
use Rattle.header.specs.Table.{optional_dtg}
use Rattle.header.specs.Zero.{no_dtg}
use Rattle.record_octets.specs.Record.{optional_dtg_octets, dtg_octets, date_octets, time_octets}
use Rattle.read_group.proofs.times.read_optional_dtg.Goals as goal

pub returns-in_err-present : goal.returns-in_err-present
unfolding optional_dtg optional_dtg_octets
returns-in_err-present c = into-stop (record { present = false; dtg = no_dtg }) _ c.in_err-present.field-0.0 c.from_residual.ensures.1 (search (stopping, c.in_err-present.ensures) depth 14 fits 6000)

pub read_dtg-requires : goal.read_dtg-requires
read_dtg-requires c = (ready-part 24 (ready-next 4 (ready-none 28 c.args.x.now c.requires.0) (omega arith) _ _ c.x-1.given.0 c.store_mark.ensures) (omega arith), ready-part-long 24 (ready-next 4 (ready-none 28 c.args.x.now c.requires.0) (omega arith) _ _ c.x-1.given.0 c.store_mark.ensures) (omega arith))

pub returns-then-present : goal.returns-then-present
unfolding optional_dtg optional_dtg_octets
returns-then-present c = into-tell (record { present = c.in_ok-present.present; dtg = c.read_dtg.ensures.value }) _ (search (telling, refl, c.if-present.true, c.read_dtg.ensures.told, c.in_ok-present.ensures) depth 14 fits 6000) c.read_dtg.ensures.held (λ h. (ready-all (ready-next 24 (ready-next 4 (ready-none 28 c.args.x.now c.requires.0) (omega arith) _ _ c.x-1.given.0 c.store_mark.ensures) (omega arith) _ _ c.x-then-present-1.given.0 h.0), record { dtg = h.1 }))

pub returns : goal.returns
unfolding optional_dtg optional_dtg_octets mark_octets flag_octets dtg_octets date_octets word_octets time_octets no_dtg
returns c = into-got (record { present = false; dtg = no_dtg }) _ (left_out optional_dtg _ _ (λ b. record { present = b; dtg = no_dtg }) _ _ c.if-present.false (search (getting, c.in_ok-present.ensures) depth 12)) c.requires.0 (record { dtg = record { date = record { year = lit< tt; month = lit< tt; day = lit< tt }; time = record { hour = lit< tt; minute = lit< tt; second = lit< tt } } })
