-- `ends::address::AddressesEnd::end` meets its contract. Assumes nothing.
use Rattle.codec.specs.Codec.{viewed}
use Rattle.header.specs.Table.{addresses}
use Rattle.record_octets.specs.Record.{addresses_in}
use Rattle.ends.proofs.address.AddressesEnd.end.Goals as goal

pub end_entries-requires-clause-placed : goal.end_entries-requires-clause-placed
unfolding addresses viewed addresses_in
end_entries-requires-clause-placed c = rw c.load_word-count.ensures c.requires.0

pub end_entries-requires-clause-legal : goal.end_entries-requires-clause-legal
unfolding addresses viewed addresses_in
end_entries-requires-clause-legal c = rw c.load_word-count.ensures c.requires.1

pub returns : goal.returns
unfolding addresses viewed addresses_in
returns c = rw c.load_word-count.ensures at c.end_entries.ensures
