-- `row_text::digits::put_octet` meets its contract. Assumes nothing.
use borrow.Author.Rules.{rules}
use Rattle.row_text.proofs.Composing.{set-puts}
use Rattle.row_text.proofs.digits.put_octet.Goals as goal

pub returns : goal.returns
returns c = set-puts _ _ _ (search rules)
