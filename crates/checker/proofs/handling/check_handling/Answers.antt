-- `checker::handling::check_handling` meets its contract. Assumes nothing.
use Rattle.codec.proofs.Compose.{checking, handed}
use Rattle.header.specs.Table.{handling}
use Rattle.record_octets.specs.Record.{handling_in}
use Rattle.checker.proofs.handling.check_handling.Goals as goal

pub returns-in_err-check_optional : goal.returns-in_err-check_optional
unfolding handling handling_in
returns-in_err-check_optional c = rw (handed _ c.in_err-check_optional.field-0.0 c.from_residual.ensures.1) (search (checking, c.in_err-check_optional.ensures) depth 14 fits 6000)

pub returns-in_err-check_codes : goal.returns-in_err-check_codes
unfolding handling handling_in
returns-in_err-check_codes c = rw (handed _ c.in_err-check_codes.field-0.0 c.from_residual-in_err-check_codes.ensures.1) (search (checking, c.in_ok-check_optional.ensures, c.in_err-check_codes.ensures) depth 14 fits 6000)

pub returns : goal.returns
unfolding handling handling_in
returns c = search (checking, c.in_ok-check_optional.ensures, c.in_ok-check_codes.ensures) depth 14 fits 6000
