-- `write_group::format::IdentityWrite::write` meets its contract. Assumes nothing.
use borrow.Author.Rules.{rules}
use Rattle.codec.specs.Codec.{◌then_by◌, viewed, number}
use Rattle.codec.proofs.Compose.{writing}
use Rattle.header.specs.Table.{identity}
use Rattle.record_octets.specs.Record.{identity_in}
use Rattle.write_group.proofs.format.IdentityWrite.write.Goals as goal

pub write_word-at-requires : goal.write_word-at-requires
unfolding identity ◌then_by◌ viewed number identity_in
write_word-at-requires c = search rules

pub write_word-at-requires-2 : goal.write_word-at-requires-2
unfolding identity ◌then_by◌ viewed number identity_in
write_word-at-requires-2 c = search rules

pub write_optional-requires : goal.write_optional-requires
unfolding identity ◌then_by◌ viewed number identity_in
write_optional-requires c = search rules

pub returns : goal.returns
unfolding identity identity_in
returns c = search writing depth 12
