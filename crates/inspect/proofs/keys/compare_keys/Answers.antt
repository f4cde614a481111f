-- `inspect::keys::compare_keys` meets its contract. Assumes nothing.
use borrow.Author.Rules.{rules}
use Rattle.order.specs.Values.{key_of, by_key}
use Rattle.order.proofs.Compared.{then-with}
use Rattle.table_octets.specs.Table.{key_in}
use Rattle.inspect.proofs.keys.compare_keys.Goals as goal

pub returns : goal.returns
unfolding key_of by_key key_in
returns c = rw (← c.compare_addresses-addresses.ensures) (then-with _ _ _ _ c.then_with.ensures (λ p. search rules))
