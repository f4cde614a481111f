-- `ends::part::end_entries` meets its contract. The invariant: the entries so far end here. Assumes nothing.
use Rattle.std.proofs.Common.{arith, suc, ◌*◌, ◌≤◌}
use Rattle.std.proofs.Math.Nat.{mul-le-mul_right}
use Rattle.codec.proofs.ListEnds.{count_most, ending-none, ending-flag, ending-entry, ending-more, ending-all}
use Rattle.cells.proofs.Lists.{many-entry}
use Rattle.ends.proofs.part.end_entries.Goals as goal

pub loop-i-init : goal.loop-i-init
loop-i-init g c = let p = g.P.Part in ending-none p.none p.rule _ g.P.Entry.more _ _ c.requires.legal (omega arith) _

pub end_flag-behind-requires : goal.end_flag-behind-requires
end_flag-behind-requires g c =
    let p = g.P.Part in ending-flag p.none p.rule _ g.P.Entry.more _ _ c.requires.legal (omega arith) _ _ _ c.loop-i.invariant p.none c.loop-i-test.true _ c.requires.placed

pub entry-requires : goal.entry-requires
entry-requires g c =
    let p = g.P.Part in
    let more = g.P.Entry.more in
    let k = count_most p.none p.rule (suc more) more _ _ c.requires.legal in
    let m : suc c.loop-i.i * p.OCTETS ≤ suc more * p.OCTETS = mul-le-mul_right p.OCTETS (omega (arith, k, c.loop-i-test.true)) in
    rw c.OCTETS.ensures (omega (arith, m, c.requires.whole))

pub end-place-requires : goal.end-place-requires
end-place-requires g c =
    let p = g.P.Part in
    let more = g.P.Entry.more in
    let k = count_most p.none p.rule (suc more) more _ _ c.requires.legal in
    let lent = rw c.OCTETS.ensures at c.entry.ensures in
    let m = many-entry p.held p.OCTETS (suc more) c.loop-i.i c.args.list.now _ p.none lent.0 (omega (arith, k, c.loop-i-test.true)) in
    (rw m (ending-entry p.none p.rule _ more _ _ c.requires.legal (omega arith) _ _ _ c.loop-i.invariant p.none c.loop-i-test.true _ _ c.end_flag-behind.ensures c.requires.placed), c.requires.asked _, lent.1)

pub loop-i-preserved : goal.loop-i-preserved
loop-i-preserved g c =
    let p = g.P.Part in
    let more = g.P.Entry.more in
    let k = count_most p.none p.rule (suc more) more _ _ c.requires.legal in
    let lent = rw c.OCTETS.ensures at c.entry.ensures in
    let m = many-entry p.held p.OCTETS (suc more) c.loop-i.i c.args.list.now _ p.none lent.0 (omega (arith, k, c.loop-i-test.true)) in
    ending-more p.none p.rule _ more _ _ c.requires.legal (omega arith) _ _ _ c.loop-i.invariant p.none c.loop-i-test.true _ _ c.end_flag-behind.ensures (rw m at c.end-place.ensures)

pub returns : goal.returns
returns g c = let p = g.P.Part in ending-all p.none p.rule _ g.P.Entry.more _ _ c.requires.legal (omega arith) _ _ _ c.loop-i.invariant (omega arith)
