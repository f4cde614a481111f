-- `transitions::settled::settle` meets its contract. Assumes nothing.
use mathlib.Core.Path.{refl, ap}
use mathlib.Core.Bool.{true, false}
use Rattle.cells.specs.Cells.{replaced}
use Rattle.transitions.proofs.Receiving.{nothing-open, some-open}
use Rattle.transitions.proofs.settled.settle.Goals as goal

pub returns-in_default : goal.returns-in_default
returns-in_default c = let e = c.load_codes-old.ensures in nothing-open c.args.asked c.args.code c.args.x.now _ _ _ e.0 e.1 e.2 false 0 0 0 c.in_default.ensures refl

pub returns : goal.returns
returns c = let e = c.load_codes-old.ensures in some-open c.args.asked c.args.code c.args.x.now _ _ _ e.0 e.1 e.2 true c.in-Some.codes.machine c.in-Some.codes.acknowledge c.in-Some.codes.reply c.in-Some.ensures refl (replaced 80 12 c.args.x.now c.store_codes.new.x) (ap (replaced 80 12 c.args.x.now) c.store_codes.ensures)
