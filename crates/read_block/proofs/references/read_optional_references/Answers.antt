-- `read_block::references::read_optional_references` meets its contract. Assumes nothing.
use mathlib.Core.Path.{refl}
use mathlib.Core.Bool.{false}
use native.Mathlib.Omega.{arith}
use lib.Dec.{lit<}
use Rattle.codec.proofs.Compose.{getting, left_out, stopping}
use Rattle.cells.specs.Cells.{word_octets, flag_octets, mark_octets, many_octets}
use Rattle.into.proofs.Ready.{ready-none, ready-part, ready-part-long, ready-next, ready-all}
use Rattle.into.proofs.Telling.{telling, into-stop, into-tell, into-got}
use Rattle.header.specs.Table.{optional_references}
use Rattle.header.specs.Zero.{no_address, no_dtg, no_number, no_optional_text, no_reference, no_references, no_stamp}
use Rattle.record_octets.specs.Record.{optional_references_octets, references_octets, reference_octets, address_octets, optional_number_octets, optional_text_octets, text_octets, stamp_octets, dtg_octets, date_octets, time_octets}
use Rattle.read_block.proofs.references.read_optional_references.Goals as goal

pub returns-in_err-present : goal.returns-in_err-present
unfolding optional_references optional_references_octets
returns-in_err-present c = into-stop (record { present = false; references = no_references }) _ c.in_err-present.field-0.0 c.from_residual.ensures.1 (search (stopping, c.in_err-present.ensures) depth 14 fits 6000)

pub read_references-requires : goal.read_references-requires
read_references-requires c = (ready-part 452 (ready-next 4 (ready-none 456 c.args.x.now c.requires.0) (omega arith) _ _ c.x-1.given.0 c.store_mark.ensures) (omega arith), ready-part-long 452 (ready-next 4 (ready-none 456 c.args.x.now c.requires.0) (omega arith) _ _ c.x-1.given.0 c.store_mark.ensures) (omega arith))

pub returns-then-present : goal.returns-then-present
unfolding optional_references optional_references_octets
returns-then-present c = into-tell (record { present = c.in_ok-present.present; references = c.read_references.ensures.value }) _ (search (telling, c.if-present.true, c.read_references.ensures.told, c.in_ok-present.ensures) depth 14 fits 6000) c.read_references.ensures.held (λ h. (ready-all (ready-next 452 (ready-next 4 (ready-none 456 c.args.x.now c.requires.0) (omega arith) _ _ c.x-1.given.0 c.store_mark.ensures) (omega arith) _ _ c.x-then-present-1.given.0 h.0), record { references = h.1 }))

pub returns : goal.returns
unfolding optional_references optional_references_octets mark_octets flag_octets references_octets many_octets reference_octets address_octets optional_number_octets word_octets optional_text_octets text_octets stamp_octets dtg_octets date_octets time_octets no_references no_reference no_address no_number no_optional_text no_stamp no_dtg
returns c = into-got (record { present = false; references = no_references }) _ (left_out optional_references _ _ (λ b. record { present = b; references = no_references }) _ _ c.if-present.false (search (getting, c.in_ok-present.ensures) depth 12)) c.requires.0 (record { references = record { list = (refl, (record { address = record { urn = record { value = lit< tt }; name = record { text = record { chars = refl; len = lit< tt } } }; stamp = record { dtg = record { date = record { year = lit< tt; month = lit< tt; day = lit< tt }; time = record { hour = lit< tt; minute = lit< tt; second = lit< tt } }; extension = record { value = lit< tt } } }, (record { address = record { urn = record { value = lit< tt }; name = record { text = record { chars = refl; len = lit< tt } } }; stamp = record { dtg = record { date = record { year = lit< tt; month = lit< tt; day = lit< tt }; time = record { hour = lit< tt; minute = lit< tt; second = lit< tt } }; extension = record { value = lit< tt } } }, (record { address = record { urn = record { value = lit< tt }; name = record { text = record { chars = refl; len = lit< tt } } }; stamp = record { dtg = record { date = record { year = lit< tt; month = lit< tt; day = lit< tt }; time = record { hour = lit< tt; minute = lit< tt; second = lit< tt } }; extension = record { value = lit< tt } } }, (record { address = record { urn = record { value = lit< tt }; name = record { text = record { chars = refl; len = lit< tt } } }; stamp = record { dtg = record { date = record { year = lit< tt; month = lit< tt; day = lit< tt }; time = record { hour = lit< tt; minute = lit< tt; second = lit< tt } }; extension = record { value = lit< tt } } }, tt))))); count = lit< tt } })
