-- `checker::references::ReferenceCheck::check` meets its contract. Assumes nothing.
use Rattle.codec.proofs.Compose.{checking, handed}
use Rattle.header.specs.Table.{reference}
use Rattle.record_octets.specs.Record.{reference_in}
use Rattle.checker.proofs.references.ReferenceCheck.check.Goals as goal

pub returns-in_err-check : goal.returns-in_err-check
unfolding reference reference_in
returns-in_err-check c = rw (handed _ c.in_err-check.field-0.0 c.from_residual.ensures.1) (search (checking, c.in_err-check.ensures) depth 14 fits 6000)

pub returns : goal.returns
unfolding reference reference_in
returns c = search (checking, c.in_ok-check.ensures) depth 14 fits 6000
