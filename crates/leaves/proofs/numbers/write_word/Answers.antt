-- `leaves::numbers::write_word` meets its contract. Assumes nothing.
use Rattle.leaves.proofs.numbers.write_word.Goals as goal

pub returns : goal.returns
returns c = rw c.load_word.ensures at c.write_number.ensures
