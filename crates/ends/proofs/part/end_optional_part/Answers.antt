-- `ends::part::end_optional_part` meets its contract. Assumes nothing.
use Rattle.std.proofs.Common.{rules, arith, sym, ◌∙◌, ◌≡◌, ◌-◌, length}
use Rattle.cells.specs.Cells.{part}
use Rattle.codec.specs.Codec.{◌then_by◌, flag}
use Rattle.codec.proofs.Compose.{present-size, absent-size}
use Rattle.ends.proofs.part.end_optional_part.Goals as goal

pub end_flag-behind-requires : goal.end_flag-behind-requires
unfolding ◌then_by◌ flag
end_flag-behind-requires g c = search rules

pub end-requires : goal.end-requires
unfolding ◌then_by◌ flag
end-requires g c =
    let p = g.P.Part in
    let there = sym c.load_flag.ensures ∙ c.if-load_flag.true in
    let e = present-size p.none p.rule _ (p.held (part c.args.place p.OCTETS c.args.x.now)) there in
    let behind : length c.args.x.now - c.args.place ≡ p.OCTETS = omega (arith, c.requires.whole.1) in
    rw behind (search rules, c.requires.asked there, search rules)

pub returns-then-load_flag : goal.returns-then-load_flag
unfolding ◌then_by◌ flag
returns-then-load_flag g c =
    let p = g.P.Part in
    let e = present-size p.none p.rule _ (p.held (part c.args.place p.OCTETS c.args.x.now)) (sym c.load_flag.ensures ∙ c.if-load_flag.true) in
    let behind : length c.args.x.now - c.args.place ≡ p.OCTETS = omega (arith, c.requires.whole.1) in
    let ends = rw behind at c.end.ensures in
    search rules

pub returns : goal.returns
unfolding ◌then_by◌ flag
returns g c =
    let p = g.P.Part in
    let e = absent-size p.none p.rule _ (p.held (part c.args.place p.OCTETS c.args.x.now)) (sym c.load_flag.ensures ∙ c.if-load_flag.false) in
    search rules
