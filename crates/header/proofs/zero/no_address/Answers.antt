-- `header::zero::no_address` meets its contract. Assumes nothing.
use Rattle.header.specs.Zero.{no_address, no_number}
use Rattle.header.proofs.zero.no_address.Goals as goal

pub returns : goal.returns
unfolding no_address no_number
returns c = rw c.no_optional_text.ensures
