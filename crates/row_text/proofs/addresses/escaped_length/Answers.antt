-- `row_text::addresses::escaped_length` meets its contract. Assumes nothing.
use borrow.Author.Rules.{rules}
use mathlib.Core.Path.{ap}
use lib.ListN.{length}
use Rattle.row_text.proofs.Texts.{escaped-special, escaped-plain}
use Rattle.row_text.proofs.addresses.escaped_length.Goals as goal

pub returns-then-needs_escape : goal.returns-then-needs_escape
returns-then-needs_escape c = let e = ap length (escaped-special c.args.c _ c.needs_escape.ensures c.if-needs_escape.true) in search rules

pub returns : goal.returns
returns c = let e = ap length (escaped-plain c.args.c _ c.needs_escape.ensures c.if-needs_escape.false) in search rules
