-- `row_text::digits::put_decimal` meets its contract. The invariant: the digits behind the place are put, and those of the rest complete the number. Assumes nothing.
use Rattle.row_text.proofs.Decimals.{Filling}
use Rattle.row_text.proofs.digits.put_decimal.Given as goal

abbrev pub invariant-loop-rest : goal.invariant-loop-rest
invariant-loop-rest l = Filling l.n l.initial.out l.first l.end l.out l.place l.rest

abbrev pub decreases-loop-rest : goal.decreases-loop-rest
decreases-loop-rest l = l.rest
