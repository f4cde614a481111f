-- `leaves::numbers::load_optional` meets its contract. Assumes nothing.
use Rattle.record_octets.specs.Record.{optional_number_in}
use Rattle.leaves.proofs.numbers.load_optional.Goals as goal

pub returns : goal.returns
unfolding optional_number_in
returns c = λ i. record { present = c.load_flag-present.ensures i; value = c.load_word-value.ensures i }
