-- `row_text::rows::extension_length` meets its contract. Assumes nothing.
use borrow.Author.Rules.{rules}
use mathlib.Core.Path.{ap}
use lib.ListN.{length}
use Rattle.row_text.proofs.Texts.{some-extension, no-extension}
use Rattle.row_text.proofs.rows.extension_length.Goals as goal

pub returns-then-x : goal.returns-then-x
returns-then-x c = let e = ap length (some-extension c.args.x c.if-x.true) in search rules

pub returns : goal.returns
returns c = let e = ap length (no-extension c.args.x c.if-x.false) in search rules
