-- `checker::address::AddressCheck::check` meets its contract. Assumes nothing.
use Rattle.codec.proofs.Compose.{checking, handed}
use Rattle.header.specs.Table.{address}
use Rattle.record_octets.specs.Record.{optional_number_in, address_in}
use Rattle.checker.proofs.address.AddressCheck.check.Goals as goal

pub returns-in_err-check_optional : goal.returns-in_err-check_optional
unfolding address address_in optional_number_in
returns-in_err-check_optional c = rw (handed _ c.in_err-check_optional.field-0.0 c.from_residual.ensures.1) (search (checking, c.in_err-check_optional.ensures) depth 14 fits 6000)

pub returns : goal.returns
unfolding address address_in optional_number_in
returns c =
    let p = rw c.load_flag-present.ensures at c.check_unit_name.ensures in
    search (checking, c.in_ok-check_optional.ensures, p) depth 14 fits 6000
