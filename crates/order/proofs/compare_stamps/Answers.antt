-- `order::compare_stamps` meets its contract. Assumes nothing.
use Rattle.order.proofs.Compared.{then-is}
use Rattle.order.proofs.compare_stamps.Goals as goal

pub returns : goal.returns
returns c = rw (c.then.ensures, then-is, c.compare_dtgs-dtgs.ensures, c.compare_optionals-extensions.ensures)
