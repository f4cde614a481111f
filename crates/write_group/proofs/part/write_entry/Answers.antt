-- `write_group::part::write_entry` meets its contract. Assumes nothing.
use borrow.Author.Rules.{rules}
use Rattle.codec.specs.Codec.{flag}
use Rattle.codec.proofs.Compose.{writing}
use Rattle.write_group.proofs.part.write_entry.Goals as goal

pub write_flag-at-requires : goal.write_flag-at-requires
unfolding flag
write_flag-at-requires g c = search rules

pub write-requires : goal.write-requires
unfolding flag
write-requires g c = (search rules, c.requires.1, c.requires.2)

pub returns : goal.returns
returns g c = search writing depth 12
