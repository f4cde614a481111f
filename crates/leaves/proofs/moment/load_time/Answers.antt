-- `leaves::moment::load_time` meets its contract. Assumes nothing.
use Rattle.record_octets.specs.Record.{time_in}
use Rattle.leaves.proofs.moment.load_time.Goals as goal

pub returns : goal.returns
unfolding time_in
returns c = λ i. record { hour = c.load_word-hour.ensures i; minute = c.load_word-minute.ensures i; second = c.load_word-second.ensures i }
