-- `inspect::well::row_follows` meets its contract. Assumes nothing.
use Rattle.order.proofs.Compared.{less-is}
use Rattle.table_octets.specs.Table.{row_in}
use Rattle.inspect.proofs.well.row_follows.Goals as goal

pub returns : goal.returns
unfolding row_in
returns c =
    let less = less-is c.compare_keys-order.result in
    let told = c.compare_keys-order.ensures in
    rw c.in-Some.is (cc)
