-- `arguments::parts::origin` meets its contract. Assumes nothing.
use borrow.Author.Rules.{rules}
use mathlib.Core.Path.{refl}
use Rattle.record_octets.specs.Record.{block_in, times_in, optional_stamp_in}
use Rattle.arguments.proofs.parts.origin.Goals as goal

pub returns : goal.returns
unfolding block_in times_in optional_stamp_in
returns c = (search rules, refl)
