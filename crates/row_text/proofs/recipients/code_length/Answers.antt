-- `row_text::recipients::code_length` meets its contract. Assumes nothing.
use borrow.Author.Rules.{rules}
use mathlib.Core.Path.{ap}
use lib.ListN.{length}
use Rattle.row_text.proofs.Texts.{open_code, given-code}
use Rattle.row_text.proofs.recipients.code_length.Goals as goal

pub returns-then-code-eq0 : goal.returns-then-code-eq0
returns-then-code-eq0 c = let e = ap length (open_code c.args.code (search rules)) in search rules

pub returns : goal.returns
returns c = let e = ap length (given-code c.args.code c.if-code-eq0.false) in search rules
