-- `leaves::moment::load_dtg` meets its contract. Assumes nothing.
use Rattle.record_octets.specs.Record.{dtg_in}
use Rattle.leaves.proofs.moment.load_dtg.Goals as goal

pub returns : goal.returns
unfolding dtg_in
returns c = λ i. record { date = c.load_date-date.ensures i; time = c.load_time-time.ensures i }
