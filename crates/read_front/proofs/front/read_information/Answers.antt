-- `read_front::front::read_information` meets its contract. Assumes nothing.
use mathlib.Core.Path.{refl}
use mathlib.Core.Bool.{false}
use native.Mathlib.Omega.{arith}
use lib.Dec.{lit<}
use Rattle.codec.proofs.Compose.{getting, left_out, stopping}
use Rattle.cells.specs.Cells.{word_octets, flag_octets, mark_octets, many_octets}
use Rattle.into.proofs.Ready.{ready-none, ready-part, ready-part-long, ready-next, ready-all}
use Rattle.into.proofs.Telling.{telling, into-stop, into-tell, into-got}
use Rattle.header.specs.Table.{information}
use Rattle.header.specs.Zero.{no_address, no_addresses, no_number, no_optional_text}
use Rattle.record_octets.specs.Record.{optional_addresses_octets, addresses_octets, address_octets, optional_number_octets, optional_text_octets, text_octets}
use Rattle.read_front.proofs.front.read_information.Goals as goal

pub returns-in_err-present : goal.returns-in_err-present
unfolding information optional_addresses_octets
returns-in_err-present c = into-stop (record { present = false; addresses = no_addresses }) _ c.in_err-present.field-0.0 c.from_residual.ensures.1 (search (stopping, c.in_err-present.ensures) depth 14 fits 6000)

pub read_addresses-requires : goal.read_addresses-requires
read_addresses-requires c = (ready-part 1284 (ready-next 4 (ready-none 1288 c.args.x.now c.requires.0) (omega arith) _ _ c.x-1.given.0 c.store_mark.ensures) (omega arith), ready-part-long 1284 (ready-next 4 (ready-none 1288 c.args.x.now c.requires.0) (omega arith) _ _ c.x-1.given.0 c.store_mark.ensures) (omega arith), omega (arith, c.one_less-left.ensures, c.requires.2))

pub returns-then-present : goal.returns-then-present
unfolding information optional_addresses_octets
returns-then-present c = let t = rw c.one_less-left.ensures at c.read_addresses.ensures.told in into-tell (record { present = c.in_ok-present.present; addresses = c.read_addresses.ensures.value }) _ (search (telling, c.if-present.true, t, c.in_ok-present.ensures) depth 14 fits 6000) c.read_addresses.ensures.held (λ h. (ready-all (ready-next 1284 (ready-next 4 (ready-none 1288 c.args.x.now c.requires.0) (omega arith) _ _ c.x-1.given.0 c.store_mark.ensures) (omega arith) _ _ c.x-then-present-1.given.0 h.0), record { addresses = h.1 }))

pub returns : goal.returns
unfolding information optional_addresses_octets mark_octets flag_octets addresses_octets many_octets address_octets optional_number_octets word_octets optional_text_octets text_octets no_addresses no_address no_number no_optional_text
returns c = into-got (record { present = false; addresses = no_addresses }) _ (left_out (information _) _ _ (λ b. record { present = b; addresses = no_addresses }) _ _ c.if-present.false (search (getting, c.in_ok-present.ensures) depth 12)) c.requires.0 (record { addresses = record { list = (refl, (record { urn = record { value = lit< tt }; name = record { text = record { chars = refl; len = lit< tt } } }, (record { urn = record { value = lit< tt }; name = record { text = record { chars = refl; len = lit< tt } } }, (record { urn = record { value = lit< tt }; name = record { text = record { chars = refl; len = lit< tt } } }, (record { urn = record { value = lit< tt }; name = record { text = record { chars = refl; len = lit< tt } } }, (record { urn = record { value = lit< tt }; name = record { text = record { chars = refl; len = lit< tt } } }, (record { urn = record { value = lit< tt }; name = record { text = record { chars = refl; len = lit< tt } } }, (record { urn = record { value = lit< tt }; name = record { text = record { chars = refl; len = lit< tt } } }, (record { urn = record { value = lit< tt }; name = record { text = record { chars = refl; len = lit< tt } } }, (record { urn = record { value = lit< tt }; name = record { text = record { chars = refl; len = lit< tt } } }, (record { urn = record { value = lit< tt }; name = record { text = record { chars = refl; len = lit< tt } } }, (record { urn = record { value = lit< tt }; name = record { text = record { chars = refl; len = lit< tt } } }, (record { urn = record { value = lit< tt }; name = record { text = record { chars = refl; len = lit< tt } } }, (record { urn = record { value = lit< tt }; name = record { text = record { chars = refl; len = lit< tt } } }, (record { urn = record { value = lit< tt }; name = record { text = record { chars = refl; len = lit< tt } } }, (record { urn = record { value = lit< tt }; name = record { text = record { chars = refl; len = lit< tt } } }, (record { urn = record { value = lit< tt }; name = record { text = record { chars = refl; len = lit< tt } } }, tt))))))))))))))))); count = lit< tt } })
