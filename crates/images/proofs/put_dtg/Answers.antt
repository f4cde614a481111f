-- `images::put_dtg` meets its contract. Assumes nothing.
use Rattle.record_octets.specs.Record.{dtg_in, dtg_octets, date_in, date_octets, time_in, time_octets}
use Rattle.cells.proofs.Stores.{filled_none, filled_next, filled-all}
use native.Mathlib.Omega.{arith}
use Rattle.images.proofs.put_dtg.Goals as goal

pub returns : goal.returns
unfolding dtg_in dtg_octets date_in date_octets time_in time_octets
returns c = (filled-all (filled_next 12 _ _ (filled_next 12 _ _ (filled_none 24 c.args.x.now c.requires.0) (omega arith) c.x-1.given.0 c.put_three.ensures.0) (omega arith) c.x-2-1.given.0 c.put_three-2.ensures.0), record { date = record { year = c.put_three.ensures.1; month = c.put_three.ensures.2; day = c.put_three.ensures.3 }; time = record { hour = c.put_three-2.ensures.1; minute = c.put_three-2.ensures.2; second = c.put_three-2.ensures.3 } })
