-- `ends::response::ResponseEnd::end` meets its contract. Assumes nothing.
use borrow.Author.Rules.{rules}
use Rattle.codec.specs.Codec.{◌then_by◌, viewed}
use Rattle.header.specs.Table.{response}
use Rattle.record_octets.specs.Record.{response_in}
use Rattle.ends.proofs.response.ResponseEnd.end.Goals as goal

pub end-at-requires : goal.end-at-requires
unfolding response ◌then_by◌ viewed response_in
end-at-requires c = search rules

pub end_compliance-at-requires : goal.end_compliance-at-requires
unfolding response ◌then_by◌ viewed response_in
end_compliance-at-requires c = search rules

pub end_optional_text-requires : goal.end_optional_text-requires
unfolding response ◌then_by◌ viewed response_in
end_optional_text-requires c = search rules

pub returns : goal.returns
unfolding response ◌then_by◌ viewed response_in
returns c = search rules
