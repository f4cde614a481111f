-- `write_block::block::write_tail` meets its contract. Assumes nothing.
use borrow.Author.Rules.{rules}
use Rattle.codec.specs.Codec.{◌then_by◌, ◌closed_by◌, viewed, tested, flag}
use Rattle.codec.proofs.Compose.{then-writes, shape-writes, closed-writes}
use Rattle.header.specs.Table.{optional_response, optional_references}
use Rattle.header.proofs.Legal.{references-legal}
use Rattle.record_octets.specs.Record.{block_in, optional_response_in, optional_references_in}
use Rattle.write_block.proofs.block.write_tail.Goals as goal

pub write_optional_part-at-requires-clause-room : goal.write_optional_part-at-requires-clause-room
unfolding optional_response optional_references ◌then_by◌ ◌closed_by◌ viewed tested flag block_in optional_response_in optional_references_in
write_optional_part-at-requires-clause-room c = search rules

pub write_optional_part-at-requires-2-clause-room : goal.write_optional_part-at-requires-2-clause-room
unfolding optional_response optional_references ◌then_by◌ ◌closed_by◌ viewed tested flag block_in optional_response_in optional_references_in
write_optional_part-at-requires-2-clause-room c = search rules

pub write_optional_part-at-requires-2-clause-asked : goal.write_optional_part-at-requires-2-clause-asked
unfolding block_in optional_references_in
write_optional_part-at-requires-2-clause-asked c = λ there. references-legal (block_in c.args.x.now).references there c.requires.1

pub write_flag-requires : goal.write_flag-requires
unfolding optional_response optional_references ◌then_by◌ ◌closed_by◌ viewed tested flag block_in optional_response_in optional_references_in
write_flag-requires c = search rules

pub returns : goal.returns
unfolding optional_response optional_references block_in optional_response_in optional_references_in
returns c =
    let x = block_in c.args.x.now in
    let answer = shape-writes _ _ _ _ _ _ x.response _ _ _ _ c.write_optional_part-at.ensures in
    let references = shape-writes _ _ _ _ _ _ x.references _ _ _ _ c.write_optional_part-at-2.ensures in
    then-writes _ _ _ _ _ _ _ _ _ answer (closed-writes _ _ _ _ _ _ _ _ _ references c.write_flag.ensures)
