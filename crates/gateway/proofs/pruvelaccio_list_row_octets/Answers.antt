-- `gateway::pruvelaccio_list_row_octets` meets its contract. Assumes nothing.
use mathlib.Core.Path.{ap, ◌∙◌}
use Rattle.answers.specs.Numbers.{list_numbers}
use Rattle.gateway.proofs.pruvelaccio_list_row_octets.Goals as goal

pub returns : goal.returns
returns c = (c.of_listing.ensures ∙ ap list_numbers c.list_row-listed.ensures.0, c.list_row-listed.ensures.1)
