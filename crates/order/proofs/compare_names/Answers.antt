-- `order::compare_names` meets its contract. Assumes nothing.
use Rattle.record_octets.specs.Record.{optional_text_in}
use Rattle.order.proofs.compare_names.Goals as goal

pub returns : goal.returns
unfolding optional_text_in
returns c = c.compare_texts.ensures
