-- `leaves::numbers::check_optional` meets its contract. Assumes nothing.
use Rattle.leaves.proofs.numbers.check_optional.Goals as goal

pub returns : goal.returns
returns c = rw c.load_optional.ensures at c.check_optional.ensures
