-- `order::compare_texts` meets its contract. Assumes nothing.
use Rattle.record_octets.specs.Record.{text_in}
use Rattle.order.proofs.Compared.{lists}
use Rattle.order.proofs.compare_texts.Goals as goal

pub returns : goal.returns
unfolding text_in
returns c = rw (c.cmp.ensures, lists, c.used-x.ensures, c.used-y.ensures, c.load_word-n.ensures, c.load_word-m.ensures)
