-- `write_group::address::AddressesWrite::write` meets its contract. Assumes nothing.
use Rattle.codec.specs.Codec.{viewed}
use Rattle.codec.proofs.Compose.{shape-writes}
use Rattle.header.specs.Table.{addresses}
use Rattle.record_octets.specs.Record.{addresses_in}
use Rattle.write_group.proofs.address.AddressesWrite.write.Goals as goal

pub write_entries-requires-clause-room : goal.write_entries-requires-clause-room
unfolding addresses viewed addresses_in
write_entries-requires-clause-room c = rw c.load_word-count.ensures c.requires.0

pub write_entries-requires-clause-legal : goal.write_entries-requires-clause-legal
unfolding addresses viewed addresses_in
write_entries-requires-clause-legal c = rw c.load_word-count.ensures c.requires.1

pub returns : goal.returns
unfolding addresses addresses_in
returns c = shape-writes _ _ _ _ _ _ (addresses_in c.args.x.now) _ _ _ _ (rw c.load_word-count.ensures at c.write_entries.ensures)
