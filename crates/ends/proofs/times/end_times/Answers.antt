-- `ends::times::end_times` meets its contract. Assumes nothing.
use borrow.Author.Rules.{rules}
use Rattle.codec.specs.Codec.{◌then_by◌, viewed}
use Rattle.header.specs.Table.{times, optional_stamp, optional_dtg, optional_requests}
use Rattle.record_octets.specs.Record.{times_in, optional_stamp_in, optional_dtg_in, optional_requests_in}
use Rattle.ends.proofs.times.end_times.Goals as goal

pub end_optional_part-at-requires-clause-placed : goal.end_optional_part-at-requires-clause-placed
unfolding times optional_stamp optional_dtg optional_requests ◌then_by◌ viewed times_in optional_stamp_in optional_dtg_in optional_requests_in
end_optional_part-at-requires-clause-placed c = search rules

pub end_optional_part-at-requires-2-clause-placed : goal.end_optional_part-at-requires-2-clause-placed
unfolding times optional_stamp optional_dtg optional_requests ◌then_by◌ viewed times_in optional_stamp_in optional_dtg_in optional_requests_in
end_optional_part-at-requires-2-clause-placed c = search rules

pub end_optional_part-requires-clause-placed : goal.end_optional_part-requires-clause-placed
unfolding times optional_stamp optional_dtg optional_requests ◌then_by◌ viewed times_in optional_stamp_in optional_dtg_in optional_requests_in
end_optional_part-requires-clause-placed c = search rules

pub returns : goal.returns
unfolding times optional_stamp optional_dtg optional_requests ◌then_by◌ viewed times_in optional_stamp_in optional_dtg_in optional_requests_in
returns c = search rules
