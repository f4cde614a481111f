-- `write_block::block::write_entry` meets its contract. Assumes nothing.
use borrow.Author.Rules.{rules}
use Rattle.codec.specs.Codec.{flag}
use Rattle.codec.proofs.Compose.{writing}
use Rattle.record_octets.specs.Record.{block_in}
use Rattle.write_block.proofs.block.write_entry.Goals as goal

pub write_flag-at-requires : goal.write_flag-at-requires
unfolding flag block_in
write_flag-at-requires c = search rules

pub write_block-requires : goal.write_block-requires
unfolding flag block_in
write_block-requires c = (search rules, c.requires.1, c.requires.2)

pub returns : goal.returns
returns c = search writing depth 12
