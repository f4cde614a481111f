-- `row_text::digits::decimal_length` meets its contract. The invariant: the digits so far are counted. Assumes nothing.
use borrow.Author.Rules.{rules}
use native.Mathlib.Omega.{arith}
use Rattle.row_text.proofs.Decimals.{counting-none, counting_more, counting-all}
use Rattle.row_text.proofs.digits.decimal_length.Goals as goal

pub loop-rest-init : goal.loop-rest-init
loop-rest-init c = counting-none _ (search rules)

pub loop-rest-smaller : goal.loop-rest-smaller
loop-rest-smaller c = omega arith

pub loop-rest-preserved : goal.loop-rest-preserved
loop-rest-preserved c = counting_more _ _ _ c.loop-rest.invariant (omega arith)

pub returns : goal.returns
returns c = counting-all _ _ _ c.loop-rest.invariant (omega arith)
