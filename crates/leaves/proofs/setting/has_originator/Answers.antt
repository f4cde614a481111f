-- `leaves::setting::has_originator` meets its contract. Assumes nothing.
use Rattle.record_octets.specs.Record.{optional_address_in, front_in, header_in}
use Rattle.leaves.proofs.setting.has_originator.Goals as goal

pub returns : goal.returns
unfolding optional_address_in front_in header_in
returns c = c.load_flag.ensures
