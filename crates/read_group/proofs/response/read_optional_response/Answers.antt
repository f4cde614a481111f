-- `read_group::response::read_optional_response` meets its contract. Assumes nothing.
use mathlib.Core.Path.{refl}
use mathlib.Core.Bool.{false}
use native.Mathlib.Omega.{arith}
use lib.Dec.{lit<}
use Rattle.codec.proofs.Compose.{getting, left_out, stopping}
use Rattle.cells.specs.Cells.{word_octets, flag_octets, mark_octets}
use Rattle.into.proofs.Ready.{ready-none, ready-part, ready-part-long, ready-next, ready-all}
use Rattle.into.proofs.Telling.{telling, into-stop, into-tell, into-got}
use Rattle.header.specs.Table.{optional_response}
use Rattle.header.specs.Zero.{no_dtg, no_number, no_optional_text, no_response, no_stamp}
use Rattle.record_octets.specs.Record.{optional_response_octets, response_octets, stamp_octets, dtg_octets, date_octets, time_octets, optional_number_octets, compliance_octets, optional_text_octets, text_octets}
use Rattle.read_group.proofs.response.read_optional_response.Goals as goal

pub returns-in_err-present : goal.returns-in_err-present
unfolding optional_response optional_response_octets
returns-in_err-present c = into-stop (record { present = false; response = no_response }) _ c.in_err-present.field-0.0 c.from_residual.ensures.1 (search (stopping, c.in_err-present.ensures) depth 14 fits 6000)

pub read_response-requires : goal.read_response-requires
read_response-requires c = (ready-part 124 (ready-next 4 (ready-none 128 c.args.x.now c.requires.0) (omega arith) _ _ c.x-1.given.0 c.store_mark.ensures) (omega arith), ready-part-long 124 (ready-next 4 (ready-none 128 c.args.x.now c.requires.0) (omega arith) _ _ c.x-1.given.0 c.store_mark.ensures) (omega arith))

pub returns-then-present : goal.returns-then-present
unfolding optional_response optional_response_octets
returns-then-present c = into-tell (record { present = c.in_ok-present.present; response = c.read_response.ensures.value }) _ (search (telling, refl, c.if-present.true, c.read_response.ensures.told, c.in_ok-present.ensures) depth 14 fits 6000) c.read_response.ensures.held (λ h. (ready-all (ready-next 124 (ready-next 4 (ready-none 128 c.args.x.now c.requires.0) (omega arith) _ _ c.x-1.given.0 c.store_mark.ensures) (omega arith) _ _ c.x-then-present-1.given.0 h.0), record { response = h.1 }))

pub returns : goal.returns
unfolding optional_response optional_response_octets mark_octets flag_octets response_octets stamp_octets dtg_octets date_octets word_octets time_octets optional_number_octets compliance_octets optional_text_octets text_octets no_response no_stamp no_dtg no_number no_optional_text
returns c = into-got (record { present = false; response = no_response }) _ (left_out optional_response _ _ (λ b. record { present = b; response = no_response }) _ _ c.if-present.false (search (getting, c.in_ok-present.ensures) depth 12)) c.requires.0 (record { response = record { stamp = record { dtg = record { date = record { year = lit< tt; month = lit< tt; day = lit< tt }; time = record { hour = lit< tt; minute = lit< tt; second = lit< tt } }; extension = record { value = lit< tt } }; compliance = record { code = lit< tt; cantco = record { value = lit< tt }; cantpro = record { value = lit< tt } }; amplification = record { text = record { chars = refl; len = lit< tt } } } })
