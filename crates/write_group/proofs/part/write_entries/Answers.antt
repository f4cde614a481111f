-- `write_group::part::write_entries` meets its contract. The invariant: what is written behind the entries so far completes the list. Assumes nothing.
use Rattle.std.proofs.Common.{rules, arith, suc, ◌*◌, ◌≤◌, ◌≡◌, ◌-◌}
use Rattle.std.proofs.Math.Nat.{mul-le-mul_right}
use Rattle.codec.proofs.ListEnds.{count-some, count_most}
use Rattle.codec.proofs.ListWrites.{entries_none, entry-there, entry-room, last-room, entries-more, entries-last}
use Rattle.cells.proofs.Lists.{many-entry}
use Rattle.write_group.proofs.part.write_entries.Goals as goal

pub overflow_sub-last : goal.overflow_sub-last
overflow_sub-last g c =
    let p = g.P.Part in
    let more = g.P.Entry.more in
    let k = count-some p.none p.rule (suc more) more _ _ c.requires.legal in
    omega (arith, k)

pub loop-n-init : goal.loop-n-init
loop-n-init g c = let p = g.P.Part in entries_none p.none p.rule _ g.P.Entry.more _ _ c.requires.legal (omega arith) _ _

pub entry-requires : goal.entry-requires
entry-requires g c =
    let p = g.P.Part in
    let more = g.P.Entry.more in
    let k = entry-there p.none p.rule (suc more) more _ _ c.requires.legal (omega arith) _ _ _ _ _ c.loop-n.invariant in
    let m = count_most p.none p.rule (suc more) more _ _ c.requires.legal in
    let fits : suc c.loop-n.n * p.OCTETS ≤ suc more * p.OCTETS = mul-le-mul_right p.OCTETS (omega (arith, k, m)) in
    rw c.OCTETS.ensures (omega (arith, fits, c.requires.whole))

pub write_entry-place-requires : goal.write_entry-place-requires
write_entry-place-requires g c =
    let p = g.P.Part in
    let more = g.P.Entry.more in
    let k = entry-there p.none p.rule (suc more) more _ _ c.requires.legal (omega arith) _ _ _ _ _ c.loop-n.invariant in
    let m = count_most p.none p.rule (suc more) more _ _ c.requires.legal in
    let long = c.loop-n.invariant.long in
    let lent = rw c.OCTETS.ensures at c.entry.ensures in
    let e = many-entry p.held p.OCTETS (suc more) c.loop-n.n c.args.list.now _ p.none lent.0 (omega (arith, k, m)) in
    let room = entry-room p.none p.rule (suc more) more _ _ c.requires.legal (omega arith) _ _ _ _ _ c.loop-n.invariant p.none (omega arith) in
    rw e ((room _ (omega (arith, c.requires.room.0)), room _ c.requires.room.1), c.requires.asked _, lent.1)

pub loop-n-preserved : goal.loop-n-preserved
loop-n-preserved g c =
    let p = g.P.Part in
    let more = g.P.Entry.more in
    let k = entry-there p.none p.rule (suc more) more _ _ c.requires.legal (omega arith) _ _ _ _ _ c.loop-n.invariant in
    let m = count_most p.none p.rule (suc more) more _ _ c.requires.legal in
    let lent = rw c.OCTETS.ensures at c.entry.ensures in
    let e = many-entry p.held p.OCTETS (suc more) c.loop-n.n c.args.list.now _ p.none lent.0 (omega (arith, k, m)) in
    entries-more p.none p.rule (suc more) more _ _ c.requires.legal (omega arith) _ _ _ _ _ c.loop-n.invariant p.none _ _ (omega arith) (search rules) (rw e at c.write_entry-place.ensures)

pub entry-requires-2 : goal.entry-requires-2
entry-requires-2 g c =
    let p = g.P.Part in
    let more = g.P.Entry.more in
    let k = entry-there p.none p.rule (suc more) more _ _ c.requires.legal (omega arith) _ _ _ _ _ c.loop-n.invariant in
    let m = count_most p.none p.rule (suc more) more _ _ c.requires.legal in
    let fits : suc (c.args.held - 1) * p.OCTETS ≤ suc more * p.OCTETS = mul-le-mul_right p.OCTETS (omega (arith, k, m)) in
    rw c.OCTETS-2.ensures (omega (arith, fits, c.requires.whole))

pub write_entry-requires : goal.write_entry-requires
write_entry-requires g c =
    let p = g.P.Part in
    let more = g.P.Entry.more in
    let k = entry-there p.none p.rule (suc more) more _ _ c.requires.legal (omega arith) _ _ _ _ _ c.loop-n.invariant in
    let m = count_most p.none p.rule (suc more) more _ _ c.requires.legal in
    let long = c.loop-n.invariant.long in
    let z : c.args.held - 1 ≡ c.loop-n.n = omega (arith, k) in
    let lent = rw c.OCTETS-2.ensures at c.entry-2.ensures in
    let e = many-entry p.held p.OCTETS (suc more) c.loop-n.n c.args.list.now _ p.none (rw z at lent.0) (omega (arith, k, m)) in
    let room = last-room p.none p.rule (suc more) more _ _ c.requires.legal (omega arith) _ _ _ _ _ c.loop-n.invariant p.none (omega arith) in
    rw e ((room _ (omega (arith, c.requires.room.0)), room _ c.requires.room.1), c.requires.asked _, lent.1)

pub returns : goal.returns
returns g c =
    let p = g.P.Part in
    let more = g.P.Entry.more in
    let k = entry-there p.none p.rule (suc more) more _ _ c.requires.legal (omega arith) _ _ _ _ _ c.loop-n.invariant in
    let m = count_most p.none p.rule (suc more) more _ _ c.requires.legal in
    let z : c.args.held - 1 ≡ c.loop-n.n = omega (arith, k) in
    let lent = rw c.OCTETS-2.ensures at c.entry-2.ensures in
    let e = many-entry p.held p.OCTETS (suc more) c.loop-n.n c.args.list.now _ p.none (rw z at lent.0) (omega (arith, k, m)) in
    entries-last p.none p.rule (suc more) more _ _ c.requires.legal (omega arith) _ _ _ _ _ c.loop-n.invariant p.none _ _ (omega arith) (rw e at c.write_entry.ensures)
