-- `checker::format::IdentityCheck::check` meets its contract. Assumes nothing.
use Rattle.codec.proofs.Compose.{checking, handed}
use Rattle.header.specs.Table.{identity}
use Rattle.record_octets.specs.Record.{identity_in}
use Rattle.checker.proofs.format.IdentityCheck.check.Goals as goal

pub returns-in_err-check_word : goal.returns-in_err-check_word
unfolding identity identity_in
returns-in_err-check_word c = rw (handed _ c.in_err-check_word.field-0.0 c.from_residual.ensures.1) (search (checking, c.in_err-check_word.ensures) depth 14 fits 6000)

pub returns-in_err-check_word-2 : goal.returns-in_err-check_word-2
unfolding identity identity_in
returns-in_err-check_word-2 c = rw (handed _ c.in_err-check_word-2.field-0.0 c.from_residual-in_err-check_word-2.ensures.1) (search (checking, c.in_ok-check_word.ensures, c.in_err-check_word-2.ensures) depth 14 fits 6000)

pub returns : goal.returns
unfolding identity identity_in
returns c = search (checking, c.in_ok-check_word.ensures, c.in_ok-check_word-2.ensures) depth 14 fits 6000
