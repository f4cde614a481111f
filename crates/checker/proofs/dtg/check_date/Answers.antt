-- `checker::dtg::check_date` meets its contract. Assumes nothing.
use Rattle.codec.proofs.Compose.{checking, handed}
use Rattle.header.specs.Table.{date}
use Rattle.record_octets.specs.Record.{date_in}
use Rattle.checker.proofs.dtg.check_date.Goals as goal

pub returns-in_err-check_number : goal.returns-in_err-check_number
unfolding date date_in
returns-in_err-check_number c =
    let y = rw c.load_word-year.ensures at c.in_err-check_number.ensures in
    rw (handed _ c.in_err-check_number.field-0.0 c.from_residual.ensures.1) (search (checking, y) depth 14 fits 6000)

pub returns-in_err-check_number-2 : goal.returns-in_err-check_number-2
unfolding date date_in
returns-in_err-check_number-2 c =
    let y = rw c.load_word-year.ensures at c.in_ok-check_number.ensures in
    let m = rw c.load_word-month.ensures at c.in_err-check_number-2.ensures in
    rw (handed _ c.in_err-check_number-2.field-0.0 c.from_residual-in_err-check_number-2.ensures.1) (search (checking, y, m) depth 14 fits 6000)

pub returns : goal.returns
unfolding date date_in
returns c =
    let y = rw c.load_word-year.ensures at c.in_ok-check_number.ensures in
    let m = rw c.load_word-month.ensures at c.in_ok-check_number-2.ensures in
    let d = rw (c.load_word-year.ensures, c.load_word-month.ensures) at c.check_day.ensures in
    search (checking, y, m, d) depth 14 fits 6000
