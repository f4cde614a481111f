-- `inspect::well::load_codes` meets its contract. Assumes nothing.
use Rattle.table_octets.specs.Table.{recipient_in}
use Rattle.inspect.proofs.well.load_codes.Goals as goal

pub returns : goal.returns
unfolding recipient_in
returns c = (c.load_word-machine.ensures, c.load_word-acknowledge.ensures, c.load_word-reply.ensures)
