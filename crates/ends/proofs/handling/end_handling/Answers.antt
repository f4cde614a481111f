-- `ends::handling::end_handling` meets its contract. Assumes nothing.
use borrow.Author.Rules.{rules}
use Rattle.codec.specs.Codec.{◌then_by◌, viewed, number}
use Rattle.header.specs.Table.{handling, codes}
use Rattle.record_octets.specs.Record.{handling_in}
use Rattle.ends.proofs.handling.end_handling.Goals as goal

pub end_optional-at-requires : goal.end_optional-at-requires
unfolding handling codes ◌then_by◌ viewed number handling_in
end_optional-at-requires c = search rules

pub end_codes-at-requires : goal.end_codes-at-requires
unfolding handling codes ◌then_by◌ viewed number handling_in
end_codes-at-requires c = search rules

pub end_optional_text-requires : goal.end_optional_text-requires
unfolding handling codes ◌then_by◌ viewed number handling_in
end_optional_text-requires c = search rules

pub returns : goal.returns
unfolding handling codes ◌then_by◌ viewed number handling_in
returns c = search rules
