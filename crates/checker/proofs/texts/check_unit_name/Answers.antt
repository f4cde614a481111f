-- `checker::texts::check_unit_name` meets its contract. Assumes nothing.
use Rattle.codec.proofs.Compose.{checking, handed}
use Rattle.header.specs.Table.{unit_name}
use Rattle.record_octets.specs.Record.{optional_text_in}
use Rattle.checker.proofs.texts.check_unit_name.Goals as goal

pub returns-in_err-check_must : goal.returns-in_err-check_must
unfolding unit_name optional_text_in
returns-in_err-check_must c =
    let f = rw c.load_flag-present.ensures at c.in_err-check_must.ensures in
    rw (handed _ c.in_err-check_must.field-0.0 c.from_residual.ensures.1) (search (checking, f) depth 14 fits 6000)

pub returns : goal.returns
unfolding unit_name optional_text_in
returns c =
    let f = rw c.load_flag-present.ensures at c.in_ok-check_must.ensures in
    let p = rw c.load_flag-present.ensures at c.check_present_name.ensures in
    search (checking, f, p) depth 14 fits 6000
