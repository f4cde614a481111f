-- `leaves::block::has_identity` meets its contract. Assumes nothing.
use Rattle.record_octets.specs.Record.{block_in, format_in, optional_identity_in}
use Rattle.leaves.proofs.block.has_identity.Goals as goal

pub returns : goal.returns
unfolding block_in format_in optional_identity_in
returns c = c.load_flag.ensures
