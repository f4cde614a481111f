-- `optional::read_optional` meets its contract. Assumes nothing.
use Rattle.codec.proofs.Compose.{handed, reading}
use Rattle.optional.specs.Optionals.{optional_number}
use Rattle.optional.proofs.read_optional.Goals as goal

pub returns-in_err-present : goal.returns-in_err-present
unfolding optional_number
returns-in_err-present c = rw (handed _ c.in_err-present.field-0.0 c.from_residual.ensures.1) (search (reading, c.in_err-present.ensures) depth 12)

pub returns-in_err-value : goal.returns-in_err-value
unfolding optional_number
returns-in_err-value c = rw (handed _ c.in_err-value.field-0.0 c.from_residual-in_err-value.ensures.1) (search (reading, c.in_ok-present.ensures, c.in_err-value.ensures) depth 12)

pub returns-then-present : goal.returns-then-present
unfolding optional_number
returns-then-present c = search (reading, c.in_ok-present.ensures, c.in_ok-value.ensures) depth 12

pub returns : goal.returns
unfolding optional_number
returns c = search (reading, c.in_ok-present.ensures) depth 12
