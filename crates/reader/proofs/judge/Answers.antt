-- `reader::judge` meets its contract. Assumes nothing.
use mathlib.Core.Path.{◌≡◌}
use mathlib.Core.Bool.{Bool, true, false, not}
use lib.Dec.{eqb}
use Rattle.header.specs.Rules.{◌⇒◌}
use Rattle.record_octets.specs.Record.{header_in}
use Rattle.reader.specs.Reading.{verdict_on}
use Rattle.reader.proofs.judge.Goals as goal
use Rattle.reader.proofs.judge.Goals.{then-not-size, else-not-size}

-- without a header size there is nothing to hold
absent : (p b r : Bool) → not p ≡ true → r ≡ not p → r ≡ p ⇒ b
absent false b r e h = h
absent true b r e h = cc

present : (p b r : Bool) → not p ≡ false → r ≡ b → r ≡ p ⇒ b
present true b r e h = h
present false b r e h = cc

pub returns : goal.returns
unfolding verdict_on header_in
returns c =
    let s = c.args.size in
    let t : c.if-not-size.holds ≡ (s.present ⇒ eqb s.value c.args.octets.0) = elim c.if-not-size.branch [
      | then-not-size w ↦ absent _ _ _ w.if-not-size.true w.holds-is
      | else-not-size w ↦ present _ _ _ w.if-not-size.false w.holds-is
    ] in
    rw (c.setting_of-x.ensures, t) at c.see_blocks.ensures
