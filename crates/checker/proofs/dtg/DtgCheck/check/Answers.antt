-- `checker::dtg::DtgCheck::check` meets its contract. Assumes nothing.
use Rattle.codec.specs.Codec.{viewed, ◌then_by◌}
use Rattle.header.specs.Table.{dtg}
use Rattle.record_octets.specs.Record.{dtg_in}
use Rattle.checker.proofs.Firsts.{and-first}
use Rattle.checker.proofs.dtg.DtgCheck.check.Goals as goal

pub returns : goal.returns
unfolding dtg dtg_in viewed ◌then_by◌
returns c = let e = and-first c.check_date-date.result c.check_time-time.result in cc
