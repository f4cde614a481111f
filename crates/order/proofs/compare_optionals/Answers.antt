-- `order::compare_optionals` meets its contract. Assumes nothing.
use Rattle.order.proofs.Compared.{options}
use Rattle.order.proofs.compare_optionals.Goals as goal

pub returns : goal.returns
returns c = rw (c.cmp.ensures, c.then_some-x.ensures, c.then_some-y.ensures) (options c.args.a.present c.args.b.present c.args.a.value c.args.b.value)
