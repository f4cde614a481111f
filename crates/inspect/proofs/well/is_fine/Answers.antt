-- `inspect::well::is_fine` meets its contract. Assumes nothing.
use mathlib.Core.Path.{◌∙◌}
use Rattle.inspect.proofs.Told.{fine-told}
use Rattle.inspect.proofs.well.is_fine.Goals as goal

pub returns : goal.returns
returns c = c.is_ok.ensures.value ∙ fine-told c.args.checked
