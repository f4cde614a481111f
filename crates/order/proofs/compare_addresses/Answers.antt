-- `order::compare_addresses` meets its contract. Assumes nothing.
use mathlib.Core.Path.{◌∙◌, ap}
use Rattle.calls.specs.Order.{◌or◌}
use Rattle.record_octets.specs.Record.{address_in}
use Rattle.order.specs.Values.{comparison_of, address_of, by_address}
use Rattle.order.proofs.Compared.{numbers}
use Rattle.order.proofs.compare_addresses.Goals as goal

pub returns-in-true-true : goal.returns-in-true-true
unfolding address_of by_address ◌or◌ address_in
returns-in-true-true c = rw (← c.load_optional-x.ensures, ← c.load_optional-y.ensures, c.in-true-true.is-0, c.in-true-true.is-1) (ap comparison_of c.cmp.ensures ∙ numbers _ _)

pub returns-in-true-false : goal.returns-in-true-false
unfolding comparison_of address_of by_address ◌or◌ address_in
returns-in-true-false c = rw (← c.load_optional-x.ensures, ← c.load_optional-y.ensures, c.in-true-false.is-0, c.in-true-false.is-1)

pub returns-in-false-true : goal.returns-in-false-true
unfolding comparison_of address_of by_address ◌or◌ address_in
returns-in-false-true c = rw (← c.load_optional-x.ensures, ← c.load_optional-y.ensures, c.in-false-true.is-0, c.in-false-true.is-1)

pub returns-in-false-false : goal.returns-in-false-false
unfolding address_of by_address ◌or◌ address_in
returns-in-false-false c = rw (← c.load_optional-x.ensures, ← c.load_optional-y.ensures, c.in-false-false.is-0, c.in-false-false.is-1) c.compare_names.ensures
