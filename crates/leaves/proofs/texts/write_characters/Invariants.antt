-- `leaves::texts::write_characters` meets its contract. The invariant: what is written behind the characters so far completes the text. Assumes nothing.
use Rattle.text.proofs.Writing.{Written}
use Rattle.leaves.proofs.texts.write_characters.Given as goal

abbrev pub invariant-loop-i : goal.invariant-loop-i
invariant-loop-i l = Written l.chars l.len l.most l.initial.out l.initial.place.0 l.out l.i l.place.0
