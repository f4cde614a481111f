-- `write_group::handling::write_codes` meets its contract. Assumes nothing.
use borrow.Author.Rules.{rules}
use Rattle.codec.specs.Codec.{◌then_by◌, viewed, number}
use Rattle.codec.proofs.Compose.{writing}
use Rattle.header.specs.Table.{codes}
use Rattle.record_octets.specs.Record.{codes_in}
use Rattle.write_group.proofs.handling.write_codes.Goals as goal

pub write_word-at-requires : goal.write_word-at-requires
unfolding codes ◌then_by◌ viewed number codes_in
write_word-at-requires c = search rules

pub write_word-at-requires-2 : goal.write_word-at-requires-2
unfolding codes ◌then_by◌ viewed number codes_in
write_word-at-requires-2 c = search rules

pub write_word-at-requires-3 : goal.write_word-at-requires-3
unfolding codes ◌then_by◌ viewed number codes_in
write_word-at-requires-3 c = search rules

pub write_word-requires : goal.write_word-requires
unfolding codes ◌then_by◌ viewed number codes_in
write_word-requires c = search rules

pub returns : goal.returns
unfolding codes codes_in
returns c = search writing depth 12
