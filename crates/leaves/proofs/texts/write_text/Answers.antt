-- `leaves::texts::write_text` meets its contract. Assumes nothing.
use borrow.Author.Rules.{rules}
use Rattle.record_octets.specs.Record.{text_in}
use Rattle.leaves.proofs.texts.write_text.Goals as goal

pub write_characters-requires : goal.write_characters-requires
unfolding text_in
write_characters-requires c = (rw c.load_word-count.ensures c.requires.0, c.requires.1, search rules)

pub returns : goal.returns
unfolding text_in
returns c = rw c.load_word-count.ensures at c.write_characters.ensures
