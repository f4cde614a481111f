-- `leaves::texts::check_text` meets its contract. Assumes nothing.
use Rattle.record_octets.specs.Record.{text_in}
use Rattle.leaves.proofs.texts.check_text.Goals as goal

pub returns : goal.returns
unfolding text_in
returns c = rw c.load_word-count.ensures at c.check_characters.ensures
