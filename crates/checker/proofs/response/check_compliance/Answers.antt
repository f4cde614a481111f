-- `checker::response::check_compliance` meets its contract. Assumes nothing.
use Rattle.codec.proofs.Compose.{checking, handed}
use Rattle.header.specs.Table.{compliance}
use Rattle.record_octets.specs.Record.{compliance_in}
use Rattle.checker.proofs.response.check_compliance.Goals as goal

pub returns-in_err-check_word : goal.returns-in_err-check_word
unfolding compliance compliance_in
returns-in_err-check_word c = rw (handed _ c.in_err-check_word.field-0.0 c.from_residual.ensures.1) (search (checking, c.in_err-check_word.ensures) depth 14 fits 6000)

pub returns-in_err-check_optional : goal.returns-in_err-check_optional
unfolding compliance compliance_in
returns-in_err-check_optional c = rw (handed _ c.in_err-check_optional.field-0.0 c.from_residual-in_err-check_optional.ensures.1) (search (checking, c.in_ok-check_word.ensures, c.in_err-check_optional.ensures) depth 14 fits 6000)

pub returns : goal.returns
unfolding compliance compliance_in
returns c = search (checking, c.in_ok-check_word.ensures, c.in_ok-check_optional.ensures) depth 14 fits 6000
