-- `checker::handling::check_codes` meets its contract. Assumes nothing.
use Rattle.codec.proofs.Compose.{checking, handed}
use Rattle.header.specs.Table.{codes}
use Rattle.record_octets.specs.Record.{codes_in}
use Rattle.checker.proofs.handling.check_codes.Goals as goal

pub returns-in_err-check_word : goal.returns-in_err-check_word
unfolding codes codes_in
returns-in_err-check_word c = rw (handed _ c.in_err-check_word.field-0.0 c.from_residual.ensures.1) (search (checking, c.in_err-check_word.ensures) depth 14 fits 6000)

pub returns-in_err-check_word-2 : goal.returns-in_err-check_word-2
unfolding codes codes_in
returns-in_err-check_word-2 c = rw (handed _ c.in_err-check_word-2.field-0.0 c.from_residual-in_err-check_word-2.ensures.1) (search (checking, c.in_ok-check_word.ensures, c.in_err-check_word-2.ensures) depth 14 fits 6000)

pub returns-in_err-check_word-3 : goal.returns-in_err-check_word-3
unfolding codes codes_in
returns-in_err-check_word-3 c = rw (handed _ c.in_err-check_word-3.field-0.0 c.from_residual-in_err-check_word-3.ensures.1) (search (checking, c.in_ok-check_word.ensures, c.in_ok-check_word-2.ensures, c.in_err-check_word-3.ensures) depth 14 fits 6000)

pub returns : goal.returns
unfolding codes codes_in
returns c = search (checking, c.in_ok-check_word.ensures, c.in_ok-check_word-2.ensures, c.in_ok-check_word-3.ensures) depth 14 fits 6000
