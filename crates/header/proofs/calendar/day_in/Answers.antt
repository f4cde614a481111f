-- `header::calendar::day_in` meets its contract. Assumes nothing.
use mathlib.Core.Path.{refl, ap}
use Prim.Native.Nat.{ℕ}
use Rattle.codec.specs.Codec.{number}
use Rattle.header.specs.Table.{day_in}
use Rattle.header.proofs.calendar.day_in.Goals as goal

pub returns : goal.returns
unfolding day_in
returns c = (ap (λ (most : ℕ). number 5 1 most 3) c.days_in.ensures, refl)
