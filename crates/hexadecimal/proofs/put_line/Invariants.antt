-- `hexadecimal::put_line` meets its contract. The invariant: the first i octets are put. Assumes nothing.
use Rattle.hexadecimal.proofs.Filling.{Filling}
use Rattle.hexadecimal.proofs.put_line.Given as goal

abbrev pub invariant-loop-i : goal.invariant-loop-i
invariant-loop-i l = Filling l.line l.initial.out l.i l.out
