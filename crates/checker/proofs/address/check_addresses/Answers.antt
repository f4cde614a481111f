-- `checker::address::check_addresses` meets its contract. Assumes nothing.
use Rattle.codec.specs.Codec.{viewed}
use Rattle.header.specs.Table.{addresses}
use Rattle.record_octets.specs.Record.{addresses_in}
use Rattle.checker.proofs.address.check_addresses.Goals as goal

pub returns : goal.returns
unfolding addresses viewed addresses_in
returns c = rw c.load_word-count.ensures at c.check_entries.ensures
