-- `leaves::setting::has_compression` meets its contract. Assumes nothing.
use Rattle.record_octets.specs.Record.{optional_number_in, front_in, header_in}
use Rattle.leaves.proofs.setting.has_compression.Goals as goal

pub returns : goal.returns
unfolding optional_number_in front_in header_in
returns c = c.load_flag.ensures
