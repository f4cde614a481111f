-- `arguments::parts::load_asked` meets its contract. Assumes nothing.
use Rattle.record_octets.specs.Record.{block_in, times_in, optional_requests_in}
use Rattle.arguments.proofs.parts.load_asked.Goals as goal

pub returns : goal.returns
unfolding block_in times_in optional_requests_in
returns c = c.load_requests.ensures
