-- `checker::part::check_optional_part` meets its contract. Assumes nothing.
use Rattle.std.proofs.Common.{arith, sym, ◌∙◌, ◌≡◌, ◌-◌, length}
use Rattle.codec.specs.Refusals.{check_no}
use Rattle.codec.proofs.Compose.{checking}
use Rattle.checker.proofs.part.check_optional_part.Goals as goal

pub check-requires : goal.check-requires
check-requires g c = omega (arith, c.requires.1)

pub returns-then-load_flag : goal.returns-then-load_flag
unfolding check_no
returns-then-load_flag g c =
    let behind : length c.args.x.now - c.args.place ≡ g.P.Part.OCTETS = omega (arith, c.requires.1) in
    let e = sym c.load_flag.ensures ∙ c.if-load_flag.true in
    let h = rw behind at c.check.ensures in
    search checking depth 12

pub returns : goal.returns
unfolding check_no
returns g c = let e = sym c.load_flag.ensures ∙ c.if-load_flag.false in search checking depth 12
