-- `leaves::numbers::end_optional` meets its contract. Assumes nothing.
use Rattle.leaves.proofs.numbers.end_optional.Goals as goal

pub end_optional-requires : goal.end_optional-requires
end_optional-requires c = rw c.load_optional.ensures c.requires.0

pub returns : goal.returns
returns c = rw c.load_optional.ensures at c.end_optional.ensures
