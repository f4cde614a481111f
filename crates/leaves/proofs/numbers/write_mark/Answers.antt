-- `leaves::numbers::write_mark` meets its contract. Assumes nothing.
use Rattle.leaves.proofs.numbers.write_mark.Goals as goal

pub returns : goal.returns
returns c = rw c.load_flag.ensures at c.write_flag.ensures
