-- `arguments::parts::answered` meets its contract. Assumes nothing.
use borrow.Author.Rules.{rules}
use mathlib.Core.Path.{refl}
use Rattle.record_octets.specs.Record.{block_in, optional_response_in, response_in}
use Rattle.arguments.proofs.parts.answered.Goals as goal

pub returns : goal.returns
unfolding block_in optional_response_in response_in
returns c = (search rules, refl)
