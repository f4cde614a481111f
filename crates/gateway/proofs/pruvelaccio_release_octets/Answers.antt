-- `gateway::pruvelaccio_release_octets` meets its contract. Assumes nothing.
use Rattle.answers.proofs.Numbered.{numbered}
use Rattle.gateway.proofs.pruvelaccio_release_octets.Goals as goal

pub returns : goal.returns
returns c = numbered _ _ c.of_call.ensures c.release.ensures
