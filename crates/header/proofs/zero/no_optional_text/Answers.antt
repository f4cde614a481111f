-- `header::zero::no_optional_text` meets its contract. Assumes nothing.
use Rattle.header.specs.Zero.{no_optional_text}
use Rattle.header.proofs.zero.no_optional_text.Goals as goal

pub returns : goal.returns
unfolding no_optional_text
returns c = rw c.no_text.ensures
