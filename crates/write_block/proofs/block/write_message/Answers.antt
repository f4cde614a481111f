-- `write_block::block::write_message` meets its contract. Assumes nothing.
use borrow.Author.Rules.{rules}
use Rattle.codec.specs.Codec.{◌then_by◌}
use Rattle.codec.proofs.Compose.{writing}
use Rattle.record_octets.specs.Record.{block_in}
use Rattle.write_block.proofs.block.write_message.Goals as goal

pub write_format-at-requires : goal.write_format-at-requires
unfolding ◌then_by◌ block_in
write_format-at-requires c = search rules

pub write_handling-at-requires : goal.write_handling-at-requires
unfolding ◌then_by◌ block_in
write_handling-at-requires c = search rules

pub write_times-requires : goal.write_times-requires
unfolding ◌then_by◌ block_in
write_times-requires c = search rules

pub returns : goal.returns
unfolding block_in
returns c = search writing depth 12
