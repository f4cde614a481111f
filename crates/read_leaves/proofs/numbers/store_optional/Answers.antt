-- `read_leaves::numbers::store_optional` meets its contract. Assumes nothing.
use native.Mathlib.Omega.{arith}
use Rattle.cells.proofs.Stores.{filled_none, filled_next, filled-all}
use Rattle.record_octets.specs.Record.{optional_number_octets}
use Rattle.read_leaves.proofs.numbers.store_optional.Goals as goal

pub returns-clause-octets : goal.returns-clause-octets
unfolding optional_number_octets
returns-clause-octets c = filled-all (filled_next 4 _ _ (filled_next 4 _ _ (filled_none 8 c.args.x.now c.requires) (omega arith) c.x-1.given.0 c.store_mark.ensures) (omega arith) c.x-2-1.given.0 c.store_word.ensures)
