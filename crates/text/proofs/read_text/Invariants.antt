-- The characters so far are read into their cells.
use Rattle.bits.specs.Datagrams.{bits_in}
use Rattle.text.proofs.Reading.{Reading}
use Rattle.text.proofs.read_text.Given as goal

abbrev pub invariant-loop-n : goal.invariant-loop-n
invariant-loop-n l = Reading (bits_in l.s) l.at.0 l.most l.chars l.n l.place.0
