-- `checker::front::check_front` meets its contract. Assumes nothing.
use Rattle.codec.proofs.Compose.{checking, handed}
use Rattle.header.specs.Table.{front, originator, recipients}
use Rattle.record_octets.specs.Record.{front_in, optional_address_in, optional_addresses_in}
use Rattle.checker.proofs.front.check_front.Goals as goal

pub returns-in_err-check_word : goal.returns-in_err-check_word
unfolding front originator recipients front_in optional_address_in optional_addresses_in
returns-in_err-check_word c = rw (handed _ c.in_err-check_word.field-0.0 c.from_residual.ensures.1) (search (checking, c.in_err-check_word.ensures) depth 14 fits 6000)

pub returns-in_err-check_optional : goal.returns-in_err-check_optional
unfolding front originator recipients front_in optional_address_in optional_addresses_in
returns-in_err-check_optional c = rw (handed _ c.in_err-check_optional.field-0.0 c.from_residual-in_err-check_optional.ensures.1) (search (checking, c.in_ok-check_word.ensures, c.in_err-check_optional.ensures) depth 14 fits 6000)

pub returns-in_err-check_optional_part : goal.returns-in_err-check_optional_part
unfolding front originator recipients front_in optional_address_in optional_addresses_in
returns-in_err-check_optional_part c = rw (handed _ c.in_err-check_optional_part.field-0.0 c.from_residual-in_err-check_optional_part.ensures.1) (search (checking, c.in_ok-check_word.ensures, c.in_ok-check_optional.ensures, c.in_err-check_optional_part.ensures) depth 14 fits 6000)

pub returns-in_err-check_optional_part-2 : goal.returns-in_err-check_optional_part-2
unfolding front originator recipients front_in optional_address_in optional_addresses_in
returns-in_err-check_optional_part-2 c = rw (handed _ c.in_err-check_optional_part-2.field-0.0 c.from_residual-in_err-check_optional_part-2.ensures.1) (search (checking, c.in_ok-check_word.ensures, c.in_ok-check_optional.ensures, c.in_ok-check_optional_part.ensures, c.in_err-check_optional_part-2.ensures) depth 14 fits 6000)

pub returns : goal.returns
unfolding front originator recipients front_in optional_address_in optional_addresses_in
returns c =
    let i = rw c.room_behind-room.ensures at c.check_information.ensures in
    search (checking, i, c.in_ok-check_word.ensures, c.in_ok-check_optional.ensures, c.in_ok-check_optional_part.ensures, c.in_ok-check_optional_part-2.ensures) depth 14 fits 6000
