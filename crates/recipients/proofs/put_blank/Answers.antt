-- `recipients::put_blank` meets its contract. Assumes nothing.
use Rattle.recipients.proofs.Blanks.{blank-octets}
use Rattle.table_octets.proofs.Images.{blank-typed}
use Rattle.cells.proofs.Stores.{filled_none, filled_next, filled-cleared, filled-all}
use native.Mathlib.Omega.{arith}
use Rattle.recipients.proofs.put_blank.Goals as goal

pub returns : goal.returns
returns c = (blank-octets _ _ (filled-all (filled-cleared 12 _ (filled_next 80 _ _ (filled_none 92 c.args.x.now c.requires.0) (omega arith) c.x-1.given.0 c.put_address.ensures.0) (omega arith) c.x-2-1.given.0 c.clear.ensures)), blank-typed _ c.put_address.ensures.1)
