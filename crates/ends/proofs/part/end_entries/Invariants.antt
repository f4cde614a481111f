-- `ends::part::end_entries` meets its contract. The invariant: the entries so far end here. Assumes nothing.
use Rattle.std.proofs.Common.{suc}
use Rattle.cells.specs.Cells.{many}
use Rattle.codec.proofs.ListEnds.{Ending}
use Rattle.ends.proofs.part.end_entries.Given as goal

abbrev pub invariant-loop-i : goal.invariant-loop-i
invariant-loop-i g l =
    let p = g.P.Part in
    let more = g.P.Entry.more in
    Ending p.none p.rule (suc more) more (many p.held p.OCTETS (suc more) l.list) l.count l.initial.place.0 l.i l.place.0
