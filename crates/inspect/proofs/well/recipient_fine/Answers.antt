-- `inspect::well::recipient_fine` meets its contract. Assumes nothing.
use Rattle.table_octets.specs.Table.{recipient_in}
use Rattle.inspect.proofs.Tests.{recipient-parts}
use Rattle.inspect.proofs.well.recipient_fine.Goals as goal
use Rattle.inspect.proofs.well.recipient_fine.Goals.{then-any_two, else-any_two}

pub returns-then-not-is_fine : goal.returns-then-not-is_fine
unfolding recipient_in
returns-then-not-is_fine c = rw (recipient-parts, ← c.check_address.ensures, ← c.is_fine.ensures, c.if-not-is_fine.true)

pub returns-else-codes_fit : goal.returns-else-codes_fit
unfolding recipient_in
returns-else-codes_fit c = rw (recipient-parts, ← c.check_address.ensures, ← c.is_fine.ensures, c.if-not-is_fine.false, ← c.load_codes-codes.ensures.0, ← c.load_codes-codes.ensures.1, ← c.load_codes-codes.ensures.2, ← c.codes_fit.ensures, c.if-codes_fit.false)

pub returns-after-any_two : goal.returns-after-any_two
unfolding recipient_in
returns-after-any_two c =
    rw (recipient-parts, ← c.check_address.ensures, ← c.is_fine.ensures, c.if-not-is_fine.false, ← c.load_codes-codes.ensures.0, ← c.load_codes-codes.ensures.1, ← c.load_codes-codes.ensures.2, ← c.codes_fit.ensures, c.if-codes_fit.true, ← c.any_two.ensures)
    (elim c.if-any_two.branch [ then-any_two w ↦ rw (w.result-is, w.if-any_two.true, w.any_open.ensures) | else-any_two w ↦ rw (w.result-is, w.if-any_two.false) ])
