-- `row_text::addresses::put_hex_digit` meets its contract. Assumes nothing.
use borrow.Author.Rules.{rules}
use Rattle.row_text.proofs.Composing.{same-puts}
use Rattle.row_text.proofs.Texts.{decimal_digit, letter-digit}
use Rattle.row_text.proofs.addresses.put_hex_digit.Goals as goal

pub returns-then-n-le9 : goal.returns-then-n-le9
returns-then-n-le9 c = same-puts (decimal_digit c.args.n (search rules)) c.put_octet.ensures

pub returns : goal.returns
returns c = same-puts (letter-digit c.args.n (search rules)) c.put_octet-2.ensures
