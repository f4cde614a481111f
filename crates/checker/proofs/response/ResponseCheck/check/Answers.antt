-- `checker::response::ResponseCheck::check` meets its contract. Assumes nothing.
use Rattle.codec.proofs.Compose.{checking, handed}
use Rattle.header.specs.Table.{response}
use Rattle.record_octets.specs.Record.{response_in}
use Rattle.checker.proofs.response.ResponseCheck.check.Goals as goal

pub returns-in_err-check : goal.returns-in_err-check
unfolding response response_in
returns-in_err-check c = rw (handed _ c.in_err-check.field-0.0 c.from_residual.ensures.1) (search (checking, c.in_err-check.ensures) depth 14 fits 6000)

pub returns-in_err-check_compliance : goal.returns-in_err-check_compliance
unfolding response response_in
returns-in_err-check_compliance c = rw (handed _ c.in_err-check_compliance.field-0.0 c.from_residual-in_err-check_compliance.ensures.1) (search (checking, c.in_ok-check.ensures, c.in_err-check_compliance.ensures) depth 14 fits 6000)

pub returns : goal.returns
unfolding response response_in
returns c = search (checking, c.in_ok-check.ensures, c.in_ok-check_compliance.ensures) depth 14 fits 6000
