-- `row_text::digits::put_decimal` meets its contract. The invariant: the digits behind the place are put, and those of the rest complete the number. Assumes nothing.
use borrow.Author.Rules.{rules}
use native.Mathlib.Omega.{arith}
use Rattle.row_text.proofs.Decimals.{filling-none, filling-there, filling-more, filling-all}
use Rattle.row_text.proofs.digits.put_decimal.Goals as goal

pub loop-rest-init : goal.loop-rest-init
loop-rest-init c = filling-none _ _ _ _ (search rules) (search rules)

pub overflow_sub-place : goal.overflow_sub-place
overflow_sub-place c = omega (arith, filling-there _ _ _ _ _ _ _ c.loop-rest.invariant)

pub bounds-out-place : goal.bounds-out-place
bounds-out-place c = omega (arith, filling-there _ _ _ _ _ _ _ c.loop-rest.invariant)

pub loop-rest-preserved : goal.loop-rest-preserved
loop-rest-preserved c = filling-more _ _ _ _ _ _ _ c.loop-rest.invariant (search rules) (search rules)

pub bounds-out-first : goal.bounds-out-first
bounds-out-first c = omega (arith, filling-there _ _ _ _ _ _ _ c.loop-rest.invariant)

pub returns : goal.returns
returns c = filling-all _ _ _ _ _ _ _ c.loop-rest.invariant (search rules) (search rules)
