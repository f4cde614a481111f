-- `gateway::pruvelaccio_check_octets` meets its contract. Assumes nothing.
use mathlib.Core.Path.{ap, ◌∙◌}
use Rattle.answers.specs.Numbers.{write_numbers}
use Rattle.gateway.proofs.pruvelaccio_check_octets.Goals as goal

pub returns : goal.returns
returns c = c.of_writing.ensures ∙ ap write_numbers c.check.ensures
