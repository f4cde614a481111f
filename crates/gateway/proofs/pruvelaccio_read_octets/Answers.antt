-- `gateway::pruvelaccio_read_octets` meets its contract. Assumes nothing.
use mathlib.Core.Path.{ap, ◌∙◌}
use Rattle.answers.specs.Numbers.{read_numbers}
use Rattle.gateway.proofs.pruvelaccio_read_octets.Goals as goal

pub returns : goal.returns
returns c = (c.of_reading.ensures ∙ ap read_numbers c.read-read.ensures.0, c.read-read.ensures.1, c.read-read.ensures.2)
