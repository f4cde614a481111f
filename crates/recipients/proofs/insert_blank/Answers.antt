-- `recipients::insert_blank` meets its contract. Assumes nothing.
use Prim.Native.Nat.{◌+◌, ◌-◌, ◌*◌}
use Rattle.cells.proofs.Inserted.{inserted_by}
use native.Mathlib.Omega.{arith}
use mathlib.Core.Path.{refl}
use Rattle.recipients.proofs.insert_blank.Goals as goal

pub returns : goal.returns
returns c = (inserted_by 92 c.args.n c.args.at _ _ (c.args.at * 92 + 92 - c.args.at * 92) c.args.s.now _ _ _ c.move_up.ensures c.put_blank.ensures.0 refl refl (omega arith) (omega arith) (omega arith), c.put_blank.ensures.1)
