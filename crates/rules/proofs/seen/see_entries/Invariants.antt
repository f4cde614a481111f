-- `rules::seen::see_entries` meets its contract. The invariant: what the blocks so far show. Assumes nothing.
use Rattle.record_octets.specs.Record.{blocks_of}
use Rattle.rules.proofs.Looks.{Looked}
use Rattle.rules.proofs.seen.see_entries.Given as goal

abbrev pub invariant-loop-i : goal.invariant-loop-i
invariant-loop-i l = Looked l.x l.alone.0 l.initial.seen.left.0 l.count (blocks_of l.list l.held).list l.seen l.i
