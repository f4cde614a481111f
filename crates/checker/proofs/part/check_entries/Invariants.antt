-- `checker::part::check_entries` meets its contract. The invariant: the entries so far are legal. Assumes nothing.
use Rattle.std.proofs.Common.{suc}
use Rattle.cells.specs.Cells.{many}
use Rattle.codec.proofs.ListChecks.{Checking}
use Rattle.checker.proofs.part.check_entries.Given as goal

abbrev pub invariant-loop-i : goal.invariant-loop-i
invariant-loop-i g l =
    let p = g.P.Part in
    let more = g.P.Entry.more in
    Checking p.none p.rule (suc more) l.left (many p.held p.OCTETS (suc more) l.list) l.count l.i
