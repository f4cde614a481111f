-- `order::compare_dtgs` meets its contract. Assumes nothing.
use Rattle.calls.specs.Order.{list}
use Rattle.calls.proofs.Orders.{then-assoc, then-end}
use Rattle.order.proofs.Compared.{numbers, then-is}
use Rattle.order.proofs.compare_dtgs.Goals as goal

pub returns : goal.returns
unfolding list
returns c = rw (c.then.ensures, c.cmp-dates.ensures, c.cmp-times.ensures) (simp (then-is, numbers, then-assoc, then-end))
