-- `flag::write_flag` meets its contract. Assumes nothing.
use mathlib.Core.Bool.{true, false}
use Rattle.flag.proofs.Leaf.{flag-writes}
use Rattle.flag.proofs.write_flag.Goals as goal

pub returns-then-b : goal.returns-then-b
returns-then-b c = rw (c.if-b.true, c.end_flag.ensures) (flag-writes true _ _ _ c.write_bits.ensures)

pub returns : goal.returns
returns c = rw (c.if-b.false, c.end_flag-2.ensures) (flag-writes false _ _ _ c.write_bits-2.ensures)
