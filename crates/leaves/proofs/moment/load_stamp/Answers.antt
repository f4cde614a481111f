-- `leaves::moment::load_stamp` meets its contract. Assumes nothing.
use Rattle.record_octets.specs.Record.{stamp_in}
use Rattle.leaves.proofs.moment.load_stamp.Goals as goal

pub returns : goal.returns
unfolding stamp_in
returns c = λ i. record { dtg = c.load_dtg-dtg.ensures i; extension = c.load_optional-extension.ensures i }
