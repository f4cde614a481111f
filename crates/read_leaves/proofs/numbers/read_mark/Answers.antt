-- `read_leaves::numbers::read_mark` meets its contract. Assumes nothing.
use mathlib.Core.Bool.{false}
use Rattle.codec.proofs.Compose.{reading-stop, getting}
use Rattle.into.proofs.Telling.{into-stop, into-got}
use Rattle.read_leaves.proofs.numbers.read_mark.Goals as goal

pub returns-in_err-b : goal.returns-in_err-b
returns-in_err-b c = into-stop false _ c.in_err-b.field-0.0 c.from_residual.ensures.1 (reading-stop _ _ _ _ c.in_err-b.ensures)

pub returns : goal.returns
returns c = into-got _ _ (search (getting, c.in_ok-b.ensures) depth 6) c.store_flag.ensures tt
