-- `checker::dtg::StampCheck::check` meets its contract. Assumes nothing.
use Rattle.codec.proofs.Compose.{checking, handed}
use Rattle.header.specs.Table.{stamp}
use Rattle.record_octets.specs.Record.{stamp_in}
use Rattle.checker.proofs.dtg.StampCheck.check.Goals as goal

pub returns-in_err-check : goal.returns-in_err-check
unfolding stamp stamp_in
returns-in_err-check c = rw (handed _ c.in_err-check.field-0.0 c.from_residual.ensures.1) (search (checking, c.in_err-check.ensures) depth 14 fits 6000)

pub returns : goal.returns
unfolding stamp stamp_in
returns c = search (checking, c.in_ok-check.ensures) depth 14 fits 6000
