-- `arguments::parts::first_recipient` meets its contract. Assumes nothing.
use mathlib.Core.Path.{ap, ◌∙◌}
use lib.Dec.{lit<}
use lib.ListN.{get_or}
use Rattle.header.specs.Zero.{no_address}
use Rattle.header.specs.declared.Addresses.{Addresses}
use Rattle.cells.proofs.Lists.{many-entry}
use Rattle.record_octets.specs.Record.{address_in, addresses_in}
use Rattle.arguments.proofs.parts.first_recipient.Goals as goal

pub returns : goal.returns
unfolding addresses_in
returns c = (c.entry.ensures.1, many-entry address_in 80 16 0 _ _ no_address c.entry.ensures.0 (lit< tt) ∙ ap (λ (x : Addresses). get_or x.list 0 no_address) c.recipients-x.ensures.1)
