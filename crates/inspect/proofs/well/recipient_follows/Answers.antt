-- `inspect::well::recipient_follows` meets its contract. Assumes nothing.
use Rattle.order.proofs.Compared.{less-is}
use Rattle.table_octets.specs.Table.{recipient_in}
use Rattle.inspect.proofs.well.recipient_follows.Goals as goal

pub returns : goal.returns
unfolding recipient_in
returns c =
    let less = less-is c.compare_addresses-c.result in
    let told = c.compare_addresses-c.ensures in
    rw c.in-Some.is (cc)
