-- `arguments::parts::recipients` meets its contract. Assumes nothing.
use borrow.Author.Rules.{rules}
use mathlib.Core.Path.{refl}
use Rattle.record_octets.specs.Record.{header_in, front_in, optional_addresses_in}
use Rattle.arguments.proofs.parts.recipients.Goals as goal

pub returns : goal.returns
unfolding header_in front_in optional_addresses_in
returns c = (search rules, refl)
