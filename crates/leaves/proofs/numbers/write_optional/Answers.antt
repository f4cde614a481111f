-- `leaves::numbers::write_optional` meets its contract. Assumes nothing.
use Rattle.leaves.proofs.numbers.write_optional.Goals as goal

pub write_optional-requires : goal.write_optional-requires
write_optional-requires c = (rw c.load_optional.ensures c.requires.0, c.requires.1)

pub returns : goal.returns
returns c = rw c.load_optional.ensures at c.write_optional.ensures
