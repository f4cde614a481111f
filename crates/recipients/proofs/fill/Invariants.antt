-- `recipients::fill` meets its contract. The invariant: the addresses from the i-th on are in. Assumes nothing.
use Rattle.record_octets.specs.Record.{addresses_in}
use Rattle.recipients.proofs.Blanks.{Filling}
use Rattle.recipients.proofs.fill.Given as goal

abbrev pub invariant-loop-i : goal.invariant-loop-i
invariant-loop-i l = Filling (addresses_in l.to).count (addresses_in l.to).list l.i l.n l.s
