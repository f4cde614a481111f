-- `ends::block::end_block` meets its contract. Assumes nothing.
use borrow.Author.Rules.{rules}
use Rattle.codec.specs.Codec.{viewed, ◌then_by◌, ◌closed_by◌, flag, tested}
use Rattle.header.specs.Table.{block, optional_response, optional_references}
use Rattle.header.proofs.Legal.{block-references, references-legal}
use Rattle.record_octets.specs.Record.{block_in, optional_response_in, optional_references_in}
use Rattle.ends.proofs.block.end_block.Goals as goal

pub end_format-at-requires : goal.end_format-at-requires
unfolding block optional_response optional_references viewed ◌then_by◌ ◌closed_by◌ flag tested block_in optional_response_in optional_references_in
end_format-at-requires c = search rules

pub end_handling-at-requires : goal.end_handling-at-requires
unfolding block optional_response optional_references viewed ◌then_by◌ ◌closed_by◌ flag tested block_in optional_response_in optional_references_in
end_handling-at-requires c = search rules

pub end_times-at-requires : goal.end_times-at-requires
unfolding block optional_response optional_references viewed ◌then_by◌ ◌closed_by◌ flag tested block_in optional_response_in optional_references_in
end_times-at-requires c = search rules

pub end_optional_part-at-requires-clause-placed : goal.end_optional_part-at-requires-clause-placed
unfolding block optional_response optional_references viewed ◌then_by◌ ◌closed_by◌ flag tested block_in optional_response_in optional_references_in
end_optional_part-at-requires-clause-placed c = search rules

pub end_optional_part-at-requires-2-clause-placed : goal.end_optional_part-at-requires-2-clause-placed
unfolding block optional_response optional_references viewed ◌then_by◌ ◌closed_by◌ flag tested block_in optional_response_in optional_references_in
end_optional_part-at-requires-2-clause-placed c = search rules

pub end_optional_part-at-requires-2-clause-asked : goal.end_optional_part-at-requires-2-clause-asked
unfolding block optional_response optional_references viewed ◌then_by◌ ◌closed_by◌ flag tested block_in optional_response_in optional_references_in
end_optional_part-at-requires-2-clause-asked c = let x = block_in c.args.x.now in λ there. references-legal x.references there (block-references _ x c.requires.1)

pub end_flag-requires : goal.end_flag-requires
unfolding block optional_response optional_references viewed ◌then_by◌ ◌closed_by◌ flag tested block_in optional_response_in optional_references_in
end_flag-requires c = search rules

pub returns : goal.returns
unfolding block optional_response optional_references viewed ◌then_by◌ ◌closed_by◌ flag tested block_in optional_response_in optional_references_in
returns c = search rules
