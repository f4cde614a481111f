-- `transitions::settled::store_codes` meets its contract. Assumes nothing.
use native.Mathlib.Omega.{arith}
use Rattle.cells.proofs.Stores.{filled_none, filled_next, filled-all}
use Rattle.transitions.proofs.settled.store_codes.Goals as goal

pub returns : goal.returns
returns c = filled-all (filled_next 4 _ _ (filled_next 4 _ _ (filled_next 4 _ _ (filled_none 12 c.args.x.now c.requires) (omega arith) c.x-1.given.0 c.store_word.ensures) (omega arith) c.x-2-1.given.0 c.store_word-2.ensures) (omega arith) c.x-3-1.given.0 c.store_word-3.ensures)
