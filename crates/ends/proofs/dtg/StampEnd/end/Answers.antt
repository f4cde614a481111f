-- `ends::dtg::StampEnd::end` meets its contract. Assumes nothing.
use borrow.Author.Rules.{rules}
use Rattle.codec.specs.Codec.{◌then_by◌, viewed}
use Rattle.header.specs.Table.{stamp}
use Rattle.record_octets.specs.Record.{stamp_in}
use Rattle.ends.proofs.dtg.StampEnd.end.Goals as goal

pub end-at-requires : goal.end-at-requires
unfolding stamp ◌then_by◌ viewed stamp_in
end-at-requires c = search rules

pub end_optional-requires : goal.end_optional-requires
unfolding stamp ◌then_by◌ viewed stamp_in
end_optional-requires c = search rules

pub returns : goal.returns
unfolding stamp ◌then_by◌ viewed stamp_in
returns c = search rules
