-- `read_group::format::read_optional_identity` meets its contract. Assumes nothing.
use mathlib.Core.Path.{refl}
use mathlib.Core.Bool.{false}
use native.Mathlib.Omega.{arith}
use lib.Dec.{lit<}
use Rattle.codec.proofs.Compose.{getting, left_out, stopping}
use Rattle.cells.specs.Cells.{word_octets, flag_octets, mark_octets}
use Rattle.into.proofs.Ready.{ready-none, ready-part, ready-part-long, ready-next, ready-all}
use Rattle.into.proofs.Telling.{telling, into-stop, into-tell, into-got}
use Rattle.header.specs.Table.{optional_identity}
use Rattle.header.specs.Zero.{no_identity, no_number}
use Rattle.record_octets.specs.Record.{optional_identity_octets, identity_octets, optional_number_octets}
use Rattle.read_group.proofs.format.read_optional_identity.Goals as goal

pub returns-in_err-present : goal.returns-in_err-present
unfolding optional_identity optional_identity_octets
returns-in_err-present c = into-stop (record { present = false; identity = no_identity }) _ c.in_err-present.field-0.0 c.from_residual.ensures.1 (search (stopping, c.in_err-present.ensures) depth 14 fits 6000)

pub read_identity-requires : goal.read_identity-requires
read_identity-requires c = (ready-part 16 (ready-next 4 (ready-none 20 c.args.x.now c.requires.0) (omega arith) _ _ c.x-1.given.0 c.store_mark.ensures) (omega arith), ready-part-long 16 (ready-next 4 (ready-none 20 c.args.x.now c.requires.0) (omega arith) _ _ c.x-1.given.0 c.store_mark.ensures) (omega arith))

pub returns-then-present : goal.returns-then-present
unfolding optional_identity optional_identity_octets
returns-then-present c = into-tell (record { present = c.in_ok-present.present; identity = c.read_identity.ensures.value }) _ (search (telling, refl, c.if-present.true, c.read_identity.ensures.told, c.in_ok-present.ensures) depth 14 fits 6000) c.read_identity.ensures.held (λ h. (ready-all (ready-next 16 (ready-next 4 (ready-none 20 c.args.x.now c.requires.0) (omega arith) _ _ c.x-1.given.0 c.store_mark.ensures) (omega arith) _ _ c.x-then-present-1.given.0 h.0), record { identity = h.1 }))

pub returns : goal.returns
unfolding optional_identity optional_identity_octets mark_octets flag_octets identity_octets word_octets optional_number_octets no_identity no_number
returns c = into-got (record { present = false; identity = no_identity }) _ (left_out optional_identity _ _ (λ b. record { present = b; identity = no_identity }) _ _ c.if-present.false (search (getting, c.in_ok-present.ensures) depth 12)) c.requires.0 (record { identity = record { fad = lit< tt; number = lit< tt; subtype = record { value = lit< tt } } })
