-- `read_leaves::numbers::read_word` meets its contract. Assumes nothing.
use borrow.Author.Rules.{rules}
use Rattle.codec.proofs.Compose.{reading-stop, getting}
use Rattle.into.proofs.Telling.{into-stop, into-got}
use Rattle.read_leaves.proofs.numbers.read_word.Goals as goal

pub returns-in_err-v : goal.returns-in_err-v
returns-in_err-v c = into-stop 0 _ c.in_err-v.field-0.0 c.from_residual.ensures.1 (reading-stop _ _ _ _ c.in_err-v.ensures)

pub returns : goal.returns
returns c = into-got _ _ (search (getting, c.in_ok-v.ensures) depth 6) c.store_word.ensures (search rules)
