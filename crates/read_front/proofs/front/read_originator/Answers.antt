-- `read_front::front::read_originator` meets its contract. Assumes nothing.
use mathlib.Core.Path.{refl}
use mathlib.Core.Bool.{false}
use native.Mathlib.Omega.{arith}
use lib.Dec.{lit<}
use Rattle.codec.proofs.Compose.{getting, left_out, stopping}
use Rattle.cells.specs.Cells.{word_octets, flag_octets, mark_octets}
use Rattle.into.proofs.Ready.{ready-none, ready-part, ready-part-long, ready-next, ready-all}
use Rattle.into.proofs.Telling.{telling, into-stop, into-tell, into-got}
use Rattle.header.specs.Table.{originator}
use Rattle.header.specs.Zero.{no_address, no_number, no_optional_text}
use Rattle.record_octets.specs.Record.{optional_address_octets, address_octets, optional_number_octets, optional_text_octets, text_octets}
use Rattle.read_front.proofs.front.read_originator.Goals as goal

pub returns-in_err-present : goal.returns-in_err-present
unfolding originator optional_address_octets
returns-in_err-present c = into-stop (record { present = false; address = no_address }) _ c.in_err-present.field-0.0 c.from_residual.ensures.1 (search (stopping, c.in_err-present.ensures) depth 14 fits 6000)

pub read_address-requires : goal.read_address-requires
read_address-requires c = (ready-part 80 (ready-next 4 (ready-none 84 c.args.x.now c.requires.0) (omega arith) _ _ c.x-1.given.0 c.store_mark.ensures) (omega arith), ready-part-long 80 (ready-next 4 (ready-none 84 c.args.x.now c.requires.0) (omega arith) _ _ c.x-1.given.0 c.store_mark.ensures) (omega arith))

pub returns-then-present : goal.returns-then-present
unfolding originator optional_address_octets
returns-then-present c = into-tell (record { present = c.in_ok-present.present; address = c.read_address.ensures.value }) _ (search (telling, c.if-present.true, c.read_address.ensures.told, c.in_ok-present.ensures) depth 14 fits 6000) c.read_address.ensures.held (λ h. (ready-all (ready-next 80 (ready-next 4 (ready-none 84 c.args.x.now c.requires.0) (omega arith) _ _ c.x-1.given.0 c.store_mark.ensures) (omega arith) _ _ c.x-then-present-1.given.0 h.0), record { address = h.1 }))

pub returns : goal.returns
unfolding originator optional_address_octets mark_octets flag_octets address_octets optional_number_octets word_octets optional_text_octets text_octets no_address no_number no_optional_text
returns c = into-got (record { present = false; address = no_address }) _ (left_out originator _ _ (λ b. record { present = b; address = no_address }) _ _ c.if-present.false (search (getting, c.in_ok-present.ensures) depth 12)) c.requires.0 (record { address = record { urn = record { value = lit< tt }; name = record { text = record { chars = refl; len = lit< tt } } } })
