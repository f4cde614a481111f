-- `recipients::put_requests` meets its contract. Assumes nothing.
use Rattle.record_octets.specs.Record.{requests_octets}
use Rattle.cells.proofs.Stores.{filled_none, filled_next, filled-all}
use native.Mathlib.Omega.{arith}
use Rattle.recipients.proofs.put_requests.Goals as goal

pub returns : goal.returns
unfolding requests_octets
returns c = filled-all (filled_next 1 _ _ (filled_next 1 _ _ (filled_next 1 _ _ (filled_none 3 c.args.x.now c.requires) (omega arith) c.x-1.given.0 c.store_flag.ensures) (omega arith) c.x-2-1.given.0 c.store_flag-2.ensures) (omega arith) c.x-3-1.given.0 c.store_flag-3.ensures)
