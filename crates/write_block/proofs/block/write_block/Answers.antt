-- `write_block::block::write_block` meets its contract. Assumes nothing.
use borrow.Author.Rules.{rules}
use Rattle.codec.specs.Codec.{◌then_by◌, viewed}
use Rattle.codec.proofs.Compose.{writing}
use Rattle.header.specs.Table.{block}
use Rattle.header.proofs.Legal.{block-references}
use Rattle.record_octets.specs.Record.{block_in}
use Rattle.write_block.proofs.block.write_block.Goals as goal

pub write_message-at-requires : goal.write_message-at-requires
unfolding block ◌then_by◌ viewed block_in
write_message-at-requires c = search rules

pub write_tail-requires : goal.write_tail-requires
unfolding block ◌then_by◌ viewed block_in
write_tail-requires c = (search rules, block-references _ (block_in c.args.x.now) c.requires.1, c.requires.2)

pub returns : goal.returns
unfolding block block_in
returns c = search writing depth 12
