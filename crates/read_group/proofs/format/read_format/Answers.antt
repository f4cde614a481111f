-- `read_group::format::read_format` meets its contract. Assumes nothing.
use borrow.Author.Rules.{rules}
use native.Mathlib.Omega.{arith}
use Rattle.codec.proofs.Compose.{stopping}
use Rattle.into.proofs.Ready.{ready-none, ready-part, ready-part-long, ready-next, ready-all}
use Rattle.into.proofs.Telling.{telling, into-stop, into-tell}
use Rattle.header.specs.Table.{format}
use Rattle.header.specs.Zero.{no_format}
use Rattle.record_octets.specs.Record.{format_octets}
use Rattle.read_group.proofs.format.read_format.Goals as goal

pub returns-in_err-at : goal.returns-in_err-at
unfolding format format_octets
returns-in_err-at c = into-stop no_format _ c.in_err-at.field-0.0 c.from_residual.ensures.1 (search (stopping, c.in_err-at.ensures.told) depth 14 fits 6000)

pub returns-in_err-at-2 : goal.returns-in_err-at-2
unfolding format format_octets
returns-in_err-at-2 c = into-stop no_format _ c.in_err-at-2.field-0.0 c.from_residual-in_err-at-2.ensures.1 (search (stopping, c.in_ok-at.ensures.told, c.in_err-at-2.ensures.told) depth 14 fits 6000)

pub returns-in_err-at-3 : goal.returns-in_err-at-3
unfolding format format_octets
returns-in_err-at-3 c = into-stop no_format _ c.in_err-at-3.field-0.0 c.from_residual-in_err-at-3.ensures.1 (search (stopping, c.in_ok-at.ensures.told, c.in_ok-at-2.ensures.told, c.in_err-at-3.ensures.told) depth 14 fits 6000)

pub read_standard_version-requires : goal.read_standard_version-requires
read_standard_version-requires c = (ready-part 8 (ready-next 4 (ready-none 104 c.args.x.now c.requires.0) (omega arith) _ _ c.x-1.given.0 c.in_ok-at.ensures.held.0) (omega arith), ready-part-long 8 (ready-next 4 (ready-none 104 c.args.x.now c.requires.0) (omega arith) _ _ c.x-1.given.0 c.in_ok-at.ensures.held.0) (omega arith))

pub read_optional_identity-requires : goal.read_optional_identity-requires
read_optional_identity-requires c = (ready-part 20 (ready-next 8 (ready-next 4 (ready-none 104 c.args.x.now c.requires.0) (omega arith) _ _ c.x-1.given.0 c.in_ok-at.ensures.held.0) (omega arith) _ _ c.x-2-1.given.0 c.in_ok-at-2.ensures.held.0) (omega arith), ready-part-long 20 (ready-next 8 (ready-next 4 (ready-none 104 c.args.x.now c.requires.0) (omega arith) _ _ c.x-1.given.0 c.in_ok-at.ensures.held.0) (omega arith) _ _ c.x-2-1.given.0 c.in_ok-at-2.ensures.held.0) (omega arith))

pub read_optional_text-requires : goal.read_optional_text-requires
read_optional_text-requires c = (ready-part 72 (ready-next 20 (ready-next 8 (ready-next 4 (ready-none 104 c.args.x.now c.requires.0) (omega arith) _ _ c.x-1.given.0 c.in_ok-at.ensures.held.0) (omega arith) _ _ c.x-2-1.given.0 c.in_ok-at-2.ensures.held.0) (omega arith) _ _ c.x-3-1.given.0 c.in_ok-at-3.ensures.held.0) (omega arith), ready-part-long 72 (ready-next 20 (ready-next 8 (ready-next 4 (ready-none 104 c.args.x.now c.requires.0) (omega arith) _ _ c.x-1.given.0 c.in_ok-at.ensures.held.0) (omega arith) _ _ c.x-2-1.given.0 c.in_ok-at-2.ensures.held.0) (omega arith) _ _ c.x-3-1.given.0 c.in_ok-at-3.ensures.held.0) (omega arith), search rules)

pub returns : goal.returns
unfolding format format_octets
returns c = into-tell (record { umf = c.in_ok-at.ensures.value; version = c.in_ok-at-2.ensures.value; identity = c.in_ok-at-3.ensures.value; file = c.read_optional_text.ensures.value }) _ (search (telling, c.read_optional_text.ensures.told, c.in_ok-at.ensures.told, c.in_ok-at-2.ensures.told, c.in_ok-at-3.ensures.told) depth 14 fits 6000) c.read_optional_text.ensures.held (λ h. (ready-all (ready-next 72 (ready-next 20 (ready-next 8 (ready-next 4 (ready-none 104 c.args.x.now c.requires.0) (omega arith) _ _ c.x-1.given.0 c.in_ok-at.ensures.held.0) (omega arith) _ _ c.x-2-1.given.0 c.in_ok-at-2.ensures.held.0) (omega arith) _ _ c.x-3-1.given.0 c.in_ok-at-3.ensures.held.0) (omega arith) _ _ c.x-4-1.given.0 h.0), record { umf = c.in_ok-at.ensures.held.1; version = c.in_ok-at-2.ensures.held.1; identity = c.in_ok-at-3.ensures.held.1; file = h.1 }))
