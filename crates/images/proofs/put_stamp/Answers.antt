-- `images::put_stamp` meets its contract. Assumes nothing.
use Rattle.images.proofs.Copies.{number-typed}
use Rattle.table_octets.proofs.Images.{stamp-norm-is}
use Rattle.record_octets.specs.Record.{stamp_in, stamp_octets}
use Rattle.cells.proofs.Stores.{filled_none, filled_next, filled-all}
use native.Mathlib.Omega.{arith}
use Rattle.images.proofs.put_stamp.Goals as goal

pub returns : goal.returns
unfolding stamp_in stamp_octets
returns c = rw (stamp-norm-is _) (filled-all (filled_next 8 _ _ (filled_next 24 _ _ (filled_none 32 c.args.x.now c.requires.0) (omega arith) c.x-1.given.0 c.put_dtg.ensures.0) (omega arith) c.x-2-1.given.0 c.put_number.ensures.1), record { dtg = c.put_dtg.ensures.1; extension = number-typed _ c.put_number.ensures.2 })
