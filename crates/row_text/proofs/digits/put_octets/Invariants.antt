-- `row_text::digits::put_octets` meets its contract. The invariant: the octets so far are put. Assumes nothing.
use mathlib.Core.List.{[], ◌∷◌}
use lib.ListN.{length}
use Rattle.row_text.proofs.Lines.{Putting}
use Rattle.row_text.proofs.digits.put_octets.Given as goal

abbrev pub invariant-loop-c : goal.invariant-loop-c
invariant-loop-c l = Putting (λ x. x ∷ []) l.s (length l.s) l.initial.out l.initial.place.0 l.out l.c-index l.place.0
