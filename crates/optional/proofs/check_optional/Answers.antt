-- `optional::check_optional` meets its contract. Assumes nothing.
use Rattle.codec.specs.Refusals.{check_no}
use Rattle.codec.proofs.Compose.{checking}
use Rattle.optional.specs.Optionals.{optional_number}
use Rattle.optional.proofs.check_optional.Goals as goal

pub returns-then-x : goal.returns-then-x
unfolding optional_number check_no
returns-then-x c = search checking depth 12

pub returns : goal.returns
unfolding optional_number check_no
returns c = search checking depth 12
