-- `arguments::has_recipients` meets its contract. Assumes nothing.
use Rattle.record_octets.specs.Record.{header_in, front_in, optional_addresses_in}
use Rattle.arguments.proofs.has_recipients.Goals as goal

pub returns : goal.returns
unfolding header_in front_in optional_addresses_in
returns c = c.load_flag.ensures
