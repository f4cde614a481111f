-- `read_group::handling::read_handling` meets its contract. Assumes nothing.
use borrow.Author.Rules.{rules}
use native.Mathlib.Omega.{arith}
use Rattle.codec.proofs.Compose.{stopping}
use Rattle.into.proofs.Ready.{ready-none, ready-part, ready-part-long, ready-next, ready-all}
use Rattle.into.proofs.Telling.{telling, into-stop, into-tell}
use Rattle.header.specs.Table.{handling}
use Rattle.header.specs.Zero.{no_handling}
use Rattle.record_octets.specs.Record.{handling_octets}
use Rattle.read_group.proofs.handling.read_handling.Goals as goal

pub returns-in_err-at : goal.returns-in_err-at
unfolding handling handling_octets
returns-in_err-at c = into-stop no_handling _ c.in_err-at.field-0.0 c.from_residual.ensures.1 (search (stopping, c.in_err-at.ensures.told) depth 14 fits 6000)

pub returns-in_err-at-2 : goal.returns-in_err-at-2
unfolding handling handling_octets
returns-in_err-at-2 c = into-stop no_handling _ c.in_err-at-2.field-0.0 c.from_residual-in_err-at-2.ensures.1 (search (stopping, c.in_ok-at.ensures.told, c.in_err-at-2.ensures.told) depth 14 fits 6000)

pub read_codes-requires : goal.read_codes-requires
read_codes-requires c = (ready-part 16 (ready-next 8 (ready-none 96 c.args.x.now c.requires.0) (omega arith) _ _ c.x-1.given.0 c.in_ok-at.ensures.held.0) (omega arith), ready-part-long 16 (ready-next 8 (ready-none 96 c.args.x.now c.requires.0) (omega arith) _ _ c.x-1.given.0 c.in_ok-at.ensures.held.0) (omega arith))

pub read_optional_text-requires : goal.read_optional_text-requires
read_optional_text-requires c = (ready-part 72 (ready-next 16 (ready-next 8 (ready-none 96 c.args.x.now c.requires.0) (omega arith) _ _ c.x-1.given.0 c.in_ok-at.ensures.held.0) (omega arith) _ _ c.x-2-1.given.0 c.in_ok-at-2.ensures.held.0) (omega arith), ready-part-long 72 (ready-next 16 (ready-next 8 (ready-none 96 c.args.x.now c.requires.0) (omega arith) _ _ c.x-1.given.0 c.in_ok-at.ensures.held.0) (omega arith) _ _ c.x-2-1.given.0 c.in_ok-at-2.ensures.held.0) (omega arith), search rules)

pub returns : goal.returns
unfolding handling handling_octets
returns c = into-tell (record { size = c.in_ok-at.ensures.value; codes = c.in_ok-at-2.ensures.value; marking = c.read_optional_text.ensures.value }) _ (search (telling, c.read_optional_text.ensures.told, c.in_ok-at.ensures.told, c.in_ok-at-2.ensures.told) depth 14 fits 6000) c.read_optional_text.ensures.held (λ h. (ready-all (ready-next 72 (ready-next 16 (ready-next 8 (ready-none 96 c.args.x.now c.requires.0) (omega arith) _ _ c.x-1.given.0 c.in_ok-at.ensures.held.0) (omega arith) _ _ c.x-2-1.given.0 c.in_ok-at-2.ensures.held.0) (omega arith) _ _ c.x-3-1.given.0 h.0), record { size = c.in_ok-at.ensures.held.1; codes = c.in_ok-at-2.ensures.held.1; marking = h.1 }))
