-- `cells::entry` meets its contract. Assumes nothing.
use Prim.Native.Nat.{◌*◌}
use mathlib.Core.Path.{ap, ◌∙◌}
use lib.ListN.{length}
use Rattle.cells.proofs.Replaced.{part_length}
use Rattle.cells.proofs.entry.Goals as goal

pub returns : goal.returns
returns c =
    let a = c.args in
    (c.between.ensures, ap length c.between.ensures ∙ part_length (a.i * a.n) a.n _ c.requires)
