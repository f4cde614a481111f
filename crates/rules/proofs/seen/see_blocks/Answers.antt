-- `rules::seen::see_blocks` meets its contract. Assumes nothing.
use Rattle.record_octets.specs.Record.{blocks_in}
use Rattle.rules.proofs.seen.see_blocks.Goals as goal

pub returns : goal.returns
unfolding blocks_in
returns c = rw c.load_word-count.ensures at c.see_entries.ensures
