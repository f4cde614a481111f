-- `number::write_number` meets its contract. Assumes nothing.
use Rattle.number.proofs.Leaf.{number-writes}
use Rattle.number.proofs.write_number.Goals as goal

pub returns : goal.returns
returns c = number-writes _ _ _ _ _ _ _ _ c.write_bits.ensures
