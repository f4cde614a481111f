-- `leaves::setting::front_version` meets its contract. Assumes nothing.
use Rattle.record_octets.specs.Record.{front_in}
use Rattle.leaves.proofs.setting.front_version.Goals as goal

pub returns : goal.returns
unfolding front_in
returns c = c.load_word.ensures
