-- `images::put_key` meets its contract. Assumes nothing.
use Rattle.images.proofs.Copies.{key-put}
use Rattle.record_octets.specs.Record.{address_in, stamp_in}
use Rattle.cells.proofs.Stores.{filled_none, filled_next, filled-all}
use native.Mathlib.Omega.{arith}
use Rattle.images.proofs.put_key.Goals as goal

pub returns : goal.returns
returns c = key-put _ (record { address = address_in c.args.a.now; stamp = stamp_in c.args.s.now }) (filled-all (filled_next 32 _ _ (filled_next 80 _ _ (filled_none 112 c.args.k.now c.requires.0) (omega arith) c.k-1.given.0 c.put_address.ensures.0) (omega arith) c.k-2-1.given.0 c.put_stamp.ensures.0)) c.put_address.ensures.1 c.put_stamp.ensures.1
