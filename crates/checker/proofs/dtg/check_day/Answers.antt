-- `checker::dtg::check_day` meets its contract. Assumes nothing.
use mathlib.Core.Path.{◌∙◌, ap}
use Prim.Native.Nat.{ℕ}
use Rattle.cells.specs.Cells.{word_in}
use Rattle.codec.specs.Codec.{Codec}
use Rattle.checker.proofs.dtg.check_day.Goals as goal

pub returns : goal.returns
returns c = c.check_word.ensures ∙ ap (λ (k : Codec ℕ). k.check (word_in c.args.x.now)) c.day_in-days.ensures.0
