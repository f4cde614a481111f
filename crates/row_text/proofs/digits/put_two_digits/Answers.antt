-- `row_text::digits::put_two_digits` meets its contract. Assumes nothing.
use Rattle.row_text.proofs.Composing.{putting}
use Rattle.row_text.proofs.digits.put_two_digits.Goals as goal

pub returns : goal.returns
returns c = search putting
