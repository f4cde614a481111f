-- `row_text::addresses::characters_length` meets its contract. The invariant: the characters so far are measured. Assumes nothing.
use lib.ListN.{take}
use Rattle.row_text.specs.Text.{escaped}
use Rattle.row_text.proofs.Lines.{Measured}
use Rattle.row_text.proofs.addresses.characters_length.Given as goal

abbrev pub invariant-loop-c : goal.invariant-loop-c
invariant-loop-c l = Measured escaped (take 64 l.x) l.n 3 l.c-index l.size.0
