-- `read_front::address::read_entry` meets its contract. Assumes nothing.
use mathlib.Core.Path.{refl}
use mathlib.Core.Bool.{false}
use Rattle.codec.proofs.Compose.{getting, stopping}
use Rattle.into.proofs.Telling.{telling-stop, telling-got}
use Rattle.header.specs.Zero.{no_address}
use Rattle.read_front.proofs.address.read_entry.Goals as goal

pub returns-in_err-more : goal.returns-in_err-more
returns-in_err-more c = telling-stop (false, no_address) _ c.in_err-more.field-0.0 c.from_residual.ensures.1 (search (stopping, c.in_err-more.ensures) depth 12)

pub returns-in_err-end : goal.returns-in_err-end
returns-in_err-end c = telling-stop (false, no_address) _ c.in_err-end.field-0.0 c.from_residual-in_err-end.ensures.1 (search (stopping, c.in_ok-more.ensures, c.in_err-end.ensures.told) depth 12)

pub returns : goal.returns
returns c = telling-got (c.in_ok-more.more, c.in_ok-end.ensures.value) _ _ (search (getting, c.in_ok-more.ensures, c.in_ok-end.ensures.told) depth 12) refl c.in_ok-end.ensures.held.0 c.in_ok-end.ensures.held.1
