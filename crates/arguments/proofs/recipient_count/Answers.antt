-- `arguments::recipient_count` meets its contract. Assumes nothing.
use Rattle.record_octets.specs.Record.{header_in, front_in, optional_addresses_in, addresses_in}
use Rattle.arguments.proofs.recipient_count.Goals as goal

pub returns : goal.returns
unfolding header_in front_in optional_addresses_in addresses_in
returns c = c.load_word.ensures
