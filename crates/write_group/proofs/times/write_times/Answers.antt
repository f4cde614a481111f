-- `write_group::times::write_times` meets its contract. Assumes nothing.
use borrow.Author.Rules.{rules}
use Rattle.codec.specs.Codec.{◌then_by◌, viewed}
use Rattle.codec.proofs.Compose.{then-writes, shape-writes}
use Rattle.header.specs.Table.{times, optional_stamp, optional_dtg, optional_requests}
use Rattle.record_octets.specs.Record.{times_in, optional_stamp_in, optional_dtg_in, optional_requests_in}
use Rattle.write_group.proofs.times.write_times.Goals as goal

pub write_optional_part-at-requires-clause-room : goal.write_optional_part-at-requires-clause-room
unfolding times optional_stamp optional_dtg optional_requests ◌then_by◌ viewed times_in optional_stamp_in optional_dtg_in optional_requests_in
write_optional_part-at-requires-clause-room c = search rules

pub write_optional_part-at-requires-2-clause-room : goal.write_optional_part-at-requires-2-clause-room
unfolding times optional_stamp optional_dtg optional_requests ◌then_by◌ viewed times_in optional_stamp_in optional_dtg_in optional_requests_in
write_optional_part-at-requires-2-clause-room c = search rules

pub write_optional_part-requires-clause-room : goal.write_optional_part-requires-clause-room
unfolding times optional_stamp optional_dtg optional_requests ◌then_by◌ viewed times_in optional_stamp_in optional_dtg_in optional_requests_in
write_optional_part-requires-clause-room c = search rules

pub returns : goal.returns
unfolding times optional_stamp optional_dtg optional_requests times_in optional_stamp_in optional_dtg_in optional_requests_in
returns c =
    let x = times_in c.args.x.now in
    let origin = shape-writes _ _ _ _ _ _ x.origin _ _ _ _ c.write_optional_part-at.ensures in
    let perish = shape-writes _ _ _ _ _ _ x.perish _ _ _ _ c.write_optional_part-at-2.ensures in
    let requests = shape-writes _ _ _ _ _ _ x.requests _ _ _ _ c.write_optional_part.ensures in
    shape-writes _ _ _ _ _ _ x _ _ _ _ (then-writes _ _ _ _ _ _ _ _ _ origin (then-writes _ _ _ _ _ _ _ _ _ perish requests))
