-- `leaves::requests::load_requests` meets its contract. Assumes nothing.
use Rattle.record_octets.specs.Record.{requests_in}
use Rattle.leaves.proofs.requests.load_requests.Goals as goal

pub returns : goal.returns
unfolding requests_in
returns c = λ i. record { machine = c.load_flag-machine.ensures i; acknowledge = c.load_flag-acknowledge.ensures i; reply = c.load_flag-reply.ensures i }
