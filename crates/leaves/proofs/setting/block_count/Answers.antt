-- `leaves::setting::block_count` meets its contract. Assumes nothing.
use Rattle.record_octets.specs.Record.{blocks_in, header_in}
use Rattle.leaves.proofs.setting.block_count.Goals as goal

pub returns : goal.returns
unfolding blocks_in header_in
returns c = c.load_word.ensures
