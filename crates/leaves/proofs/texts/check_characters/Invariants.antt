-- `leaves::texts::check_characters` meets its contract. The invariant: the highest of the characters so far stands for all of them. Assumes nothing.
use Rattle.text.proofs.Checking.{Passed}
use Rattle.leaves.proofs.texts.check_characters.Given as goal

abbrev pub invariant-loop-i : goal.invariant-loop-i
invariant-loop-i l = Passed l.chars l.len l.most l.highest l.i
