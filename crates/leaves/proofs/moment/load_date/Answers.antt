-- `leaves::moment::load_date` meets its contract. Assumes nothing.
use Rattle.record_octets.specs.Record.{date_in}
use Rattle.leaves.proofs.moment.load_date.Goals as goal

pub returns : goal.returns
unfolding date_in
returns c = λ i. record { year = c.load_word-year.ensures i; month = c.load_word-month.ensures i; day = c.load_word-day.ensures i }
