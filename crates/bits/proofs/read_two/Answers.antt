-- `bits::read_two` meets its contract: the part in the first octet is the field so far, and the second adds the rest. Assumes nothing.
use Rattle.bits.proofs.ReadStep.{two-read, two_fits}
use Rattle.bits.proofs.read_two.Goals as goal

pub overflow_add-result : goal.overflow_add-result
overflow_add-result c =
    let a = c.args in
    let p = c.requires in
    record { fits = two_fits a.s.now a.octet a.skip a.w c.fragment-low.result c.fragment-high.result p.0 p.1 p.2 p.3 c.fragment-low.ensures c.fragment-high.ensures }

pub returns : goal.returns
returns c =
    let a = c.args in
    let p = c.requires in
    two-read a.s.now a.octet a.skip a.w c.fragment-low.result c.fragment-high.result p.0 p.1 p.2 p.3 c.fragment-low.ensures c.fragment-high.ensures
