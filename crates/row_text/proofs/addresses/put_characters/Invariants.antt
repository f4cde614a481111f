-- `row_text::addresses::put_characters` meets its contract. The invariant: the characters so far are put. Assumes nothing.
use lib.ListN.{take}
use Rattle.row_text.specs.Text.{escaped}
use Rattle.row_text.proofs.Lines.{Putting}
use Rattle.row_text.proofs.addresses.put_characters.Given as goal

abbrev pub invariant-loop-c : goal.invariant-loop-c
invariant-loop-c l = Putting escaped (take 64 l.x) l.n l.initial.out l.initial.place.0 l.out l.c-index l.place.0
