-- `read_leaves::numbers::read_optional` meets its contract. Assumes nothing.
use Rattle.codec.proofs.Compose.{reading-stop, getting}
use Rattle.header.specs.Zero.{no_number}
use Rattle.into.proofs.Telling.{into-stop, into-got}
use Rattle.read_leaves.proofs.numbers.read_optional.Goals as goal

pub returns-in_err-n : goal.returns-in_err-n
returns-in_err-n c = into-stop no_number _ c.in_err-n.field-0.0 c.from_residual.ensures.1 (reading-stop _ _ _ _ c.in_err-n.ensures)

pub returns : goal.returns
returns c = into-got _ _ (search (getting, c.in_ok-n.ensures) depth 6) c.store_optional.ensures.octets c.store_optional.ensures.typed
