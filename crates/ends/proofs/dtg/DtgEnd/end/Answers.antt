-- `ends::dtg::DtgEnd::end` meets its contract. Assumes nothing.
use borrow.Author.Rules.{rules}
use Rattle.codec.specs.Codec.{◌then_by◌, viewed, number}
use Rattle.header.specs.Table.{dtg, date, day_in, time}
use Rattle.ends.proofs.dtg.DtgEnd.end.Goals as goal

pub end_dtg-requires : goal.end_dtg-requires
unfolding dtg date day_in time ◌then_by◌ viewed number
end_dtg-requires c = search rules

pub returns : goal.returns
unfolding dtg date day_in time ◌then_by◌ viewed number
returns c = search rules
