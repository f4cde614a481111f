-- `arguments::refusal` meets its contract. Assumes nothing.
use Rattle.arguments.proofs.Told.{plain-says}
use Rattle.arguments.proofs.refusal.Goals as goal

pub returns : goal.returns
returns c = plain-says _ _ (cc c.from.ensures.0, cc c.from.ensures.1, cc c.from.ensures.2)
