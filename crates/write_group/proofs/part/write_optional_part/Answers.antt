-- `write_group::part::write_optional_part` meets its contract. Assumes nothing.
use Rattle.std.proofs.Common.{rules, arith, sym, ◌∙◌, ◌≡◌, ◌-◌, length}
use Rattle.cells.specs.Cells.{part}
use Rattle.codec.specs.Codec.{◌then_by◌, flag}
use Rattle.codec.proofs.Compose.{writing, present-size}
use Rattle.write_group.proofs.part.write_optional_part.Goals as goal

pub write_mark-next-requires : goal.write_mark-next-requires
unfolding ◌then_by◌ flag
write_mark-next-requires g c = search rules

pub write-requires : goal.write-requires
unfolding ◌then_by◌ flag
write-requires g c =
    let p = g.P.Part in
    let there = sym c.load_flag.ensures ∙ c.if-load_flag.true in
    let e = present-size p.none p.rule _ (p.held (part c.args.place p.OCTETS c.args.x.now)) there in
    let behind : length c.args.x.now - c.args.place ≡ p.OCTETS = omega (arith, c.requires.whole.1) in
    rw behind (search rules, c.requires.asked there, search rules)

pub returns-then-load_flag : goal.returns-then-load_flag
returns-then-load_flag g c =
    let p = g.P.Part in
    let e = sym c.load_flag.ensures ∙ c.if-load_flag.true in
    let behind : length c.args.x.now - c.args.place ≡ p.OCTETS = omega (arith, c.requires.whole.1) in
    let written = rw behind at c.write.ensures in
    search writing depth 12

pub returns : goal.returns
returns g c = let e = sym c.load_flag.ensures ∙ c.if-load_flag.false in search writing depth 12
