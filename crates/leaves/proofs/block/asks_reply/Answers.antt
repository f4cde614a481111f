-- `leaves::block::asks_reply` meets its contract. Assumes nothing.
use Rattle.record_octets.specs.Record.{block_in, times_in, optional_requests_in, requests_in}
use Rattle.leaves.proofs.block.asks_reply.Goals as goal

pub returns : goal.returns
unfolding block_in times_in optional_requests_in requests_in
returns c = c.load_flag.ensures
