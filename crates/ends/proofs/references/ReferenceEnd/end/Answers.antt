-- `ends::references::ReferenceEnd::end` meets its contract. Assumes nothing.
use borrow.Author.Rules.{rules}
use Rattle.codec.specs.Codec.{◌then_by◌, viewed}
use Rattle.header.specs.Table.{reference}
use Rattle.record_octets.specs.Record.{reference_in}
use Rattle.ends.proofs.references.ReferenceEnd.end.Goals as goal

pub end-at-requires : goal.end-at-requires
unfolding reference ◌then_by◌ viewed reference_in
end-at-requires c = search rules

pub end-requires : goal.end-requires
unfolding reference ◌then_by◌ viewed reference_in
end-requires c = search rules

pub returns : goal.returns
unfolding reference ◌then_by◌ viewed reference_in
returns c = search rules
