-- `ends::times::RequestsEnd::end` meets its contract. Assumes nothing.
use borrow.Author.Rules.{rules}
use Rattle.codec.specs.Codec.{◌then_by◌, viewed, flag}
use Rattle.header.specs.Table.{requests}
use Rattle.ends.proofs.times.RequestsEnd.end.Goals as goal

pub end_requests-requires : goal.end_requests-requires
unfolding requests ◌then_by◌ viewed flag
end_requests-requires c = search rules

pub returns : goal.returns
unfolding requests ◌then_by◌ viewed flag
returns c = search rules
