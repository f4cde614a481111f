-- `row_text::digits::decimal_length` meets its contract. The invariant: the digits so far are counted. Assumes nothing.
use Rattle.row_text.proofs.Decimals.{Counting}
use Rattle.row_text.proofs.digits.decimal_length.Given as goal

abbrev pub invariant-loop-rest : goal.invariant-loop-rest
invariant-loop-rest l = Counting l.n l.rest l.size.0

abbrev pub decreases-loop-rest : goal.decreases-loop-rest
decreases-loop-rest l = l.rest
