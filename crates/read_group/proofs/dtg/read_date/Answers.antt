-- `read_group::dtg::read_date` meets its contract. Assumes nothing.
use borrow.Author.Rules.{rules}
use native.Mathlib.Omega.{arith}
use Rattle.codec.proofs.Compose.{stopping}
use Rattle.into.proofs.Ready.{ready-none, ready-next, ready-all}
use Rattle.into.proofs.Telling.{telling, into-stop, into-tell}
use Rattle.header.specs.Table.{date}
use Rattle.record_octets.specs.Record.{date_octets}
use Rattle.read_group.proofs.dtg.read_date.Goals as goal

pub returns-in_err-year : goal.returns-in_err-year
unfolding date
returns-in_err-year c = into-stop (record { year = 0; month = 0; day = 0 }) _ c.in_err-year.field-0.0 c.from_residual.ensures.1 (search (stopping, c.in_err-year.ensures) depth 14 fits 6000)

pub returns-in_err-month : goal.returns-in_err-month
unfolding date
returns-in_err-month c = into-stop (record { year = 0; month = 0; day = 0 }) _ c.in_err-month.field-0.0 c.from_residual-in_err-month.ensures.1 (search (stopping, c.in_ok-year.ensures, c.in_err-month.ensures) depth 14 fits 6000)

pub returns : goal.returns
unfolding date date_octets
returns c =
    into-tell (record { year = c.in_ok-year.year; month = c.in_ok-month.month; day = c.read_day.ensures.value }) _
    (search (telling, c.in_ok-year.ensures, c.in_ok-month.ensures, c.read_day.ensures.told) depth 14 fits 6000)
    c.read_day.ensures.held
    (λ h. (
      ready-all (ready-next 4 (ready-next 4 (ready-next 4 (ready-none 12 c.args.x.now c.requires.0) (omega arith) _ _ c.x-1.given.0 c.store_word.ensures) (omega arith) _ _ c.x-2-1.given.0 c.store_word-2.ensures) (omega arith) _ _ c.x-3-1.given.0 h.0),
      record { year = search rules; month = search rules; day = h.1 },
    ))
