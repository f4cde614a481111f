-- `checker::format::check_format` meets its contract. Assumes nothing.
use Rattle.codec.proofs.Compose.{checking, handed}
use Rattle.header.specs.Table.{format, optional_identity}
use Rattle.record_octets.specs.Record.{format_in, optional_identity_in}
use Rattle.checker.proofs.format.check_format.Goals as goal

pub returns-in_err-check_word : goal.returns-in_err-check_word
unfolding format optional_identity format_in optional_identity_in
returns-in_err-check_word c = rw (handed _ c.in_err-check_word.field-0.0 c.from_residual.ensures.1) (search (checking, c.in_err-check_word.ensures) depth 14 fits 6000)

pub returns-in_err-check_standard_version : goal.returns-in_err-check_standard_version
unfolding format optional_identity format_in optional_identity_in
returns-in_err-check_standard_version c = rw (handed _ c.in_err-check_standard_version.field-0.0 c.from_residual-in_err-check_standard_version.ensures.1) (search (checking, c.in_ok-check_word.ensures, c.in_err-check_standard_version.ensures) depth 14 fits 6000)

pub returns-in_err-check_optional_part : goal.returns-in_err-check_optional_part
unfolding format optional_identity format_in optional_identity_in
returns-in_err-check_optional_part c = rw (handed _ c.in_err-check_optional_part.field-0.0 c.from_residual-in_err-check_optional_part.ensures.1) (search (checking, c.in_ok-check_word.ensures, c.in_ok-check_standard_version.ensures, c.in_err-check_optional_part.ensures) depth 14 fits 6000)

pub returns : goal.returns
unfolding format optional_identity format_in optional_identity_in
returns c = search (checking, c.in_ok-check_word.ensures, c.in_ok-check_standard_version.ensures, c.in_ok-check_optional_part.ensures) depth 14 fits 6000
