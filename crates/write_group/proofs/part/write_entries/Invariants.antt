-- `write_group::part::write_entries` meets its contract. The invariant: what is written behind the entries so far completes the list. Assumes nothing.
use Rattle.std.proofs.Common.{suc}
use lib.ListN.{take}
use Rattle.cells.specs.Cells.{many}
use Rattle.codec.proofs.ListLoops.{Writing}
use Rattle.write_group.proofs.part.write_entries.Given as goal

abbrev pub invariant-loop-n : goal.invariant-loop-n
invariant-loop-n g l =
    let p = g.P.Part in
    let more = g.P.Entry.more in
    Writing p.none p.rule more (take l.held (many p.held p.OCTETS (suc more) l.list)) l.initial.out l.initial.place.0 l.out l.n l.place.0
