-- `transitions::row_count` meets its contract. Assumes nothing.
use Rattle.table_octets.specs.Table.{table_in}
use Rattle.transitions.proofs.row_count.Goals as goal

pub returns : goal.returns
unfolding table_in
returns c = c.load_word.ensures
