-- `read_group::times::read_optional_stamp` meets its contract. Assumes nothing.
use mathlib.Core.Path.{refl}
use mathlib.Core.Bool.{false}
use native.Mathlib.Omega.{arith}
use lib.Dec.{lit<}
use Rattle.codec.proofs.Compose.{getting, left_out, stopping}
use Rattle.cells.specs.Cells.{word_octets, flag_octets, mark_octets}
use Rattle.into.proofs.Ready.{ready-none, ready-part, ready-part-long, ready-next, ready-all}
use Rattle.into.proofs.Telling.{telling, into-stop, into-tell, into-got}
use Rattle.header.specs.Table.{optional_stamp}
use Rattle.header.specs.Zero.{no_dtg, no_number, no_stamp}
use Rattle.record_octets.specs.Record.{optional_stamp_octets, stamp_octets, dtg_octets, date_octets, time_octets, optional_number_octets}
use Rattle.read_group.proofs.times.read_optional_stamp.Goals as goal

pub returns-in_err-present : goal.returns-in_err-present
unfolding optional_stamp optional_stamp_octets
returns-in_err-present c = into-stop (record { present = false; stamp = no_stamp }) _ c.in_err-present.field-0.0 c.from_residual.ensures.1 (search (stopping, c.in_err-present.ensures) depth 14 fits 6000)

pub read_stamp-requires : goal.read_stamp-requires
read_stamp-requires c = (ready-part 32 (ready-next 4 (ready-none 36 c.args.x.now c.requires.0) (omega arith) _ _ c.x-1.given.0 c.store_mark.ensures) (omega arith), ready-part-long 32 (ready-next 4 (ready-none 36 c.args.x.now c.requires.0) (omega arith) _ _ c.x-1.given.0 c.store_mark.ensures) (omega arith))

pub returns-then-present : goal.returns-then-present
unfolding optional_stamp optional_stamp_octets
returns-then-present c = into-tell (record { present = c.in_ok-present.present; stamp = c.read_stamp.ensures.value }) _ (search (telling, refl, c.if-present.true, c.read_stamp.ensures.told, c.in_ok-present.ensures) depth 14 fits 6000) c.read_stamp.ensures.held (λ h. (ready-all (ready-next 32 (ready-next 4 (ready-none 36 c.args.x.now c.requires.0) (omega arith) _ _ c.x-1.given.0 c.store_mark.ensures) (omega arith) _ _ c.x-then-present-1.given.0 h.0), record { stamp = h.1 }))

pub returns : goal.returns
unfolding optional_stamp optional_stamp_octets mark_octets flag_octets stamp_octets dtg_octets date_octets word_octets time_octets optional_number_octets no_stamp no_dtg no_number
returns c = into-got (record { present = false; stamp = no_stamp }) _ (left_out optional_stamp _ _ (λ b. record { present = b; stamp = no_stamp }) _ _ c.if-present.false (search (getting, c.in_ok-present.ensures) depth 12)) c.requires.0 (record { stamp = record { dtg = record { date = record { year = lit< tt; month = lit< tt; day = lit< tt }; time = record { hour = lit< tt; minute = lit< tt; second = lit< tt } }; extension = record { value = lit< tt } } })
