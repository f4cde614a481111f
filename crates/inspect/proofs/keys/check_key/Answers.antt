-- `inspect::keys::check_key` meets its contract. Assumes nothing.
use Rattle.checker.proofs.Firsts.{and-first}
use Rattle.table_octets.specs.Table.{key_in}
use Rattle.inspect.proofs.keys.check_key.Goals as goal

pub returns : goal.returns
unfolding key_in
returns c = let e = and-first c.check_address-address.result c.check_stamp-stamp.result in cc
