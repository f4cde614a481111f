-- `read_group::handling::read_codes` meets its contract. Assumes nothing.
use native.Mathlib.Omega.{arith}
use lib.Dec.{lit≤}
use Rattle.codec.proofs.Compose.{stopping}
use Rattle.into.proofs.Ready.{ready-none, ready-part-long, ready-next, ready-all}
use Rattle.into.proofs.Telling.{telling, into-stop, into-tell}
use Rattle.header.specs.Table.{codes}
use Rattle.record_octets.specs.Record.{codes_octets}
use Rattle.read_group.proofs.handling.read_codes.Goals as goal

pub returns-in_err-at : goal.returns-in_err-at
unfolding codes codes_octets
returns-in_err-at c = into-stop (record { operation = 0; retransmit = 0; precedence = 0; classification = 0 }) _ c.in_err-at.field-0.0 c.from_residual.ensures.1 (search (stopping, c.in_err-at.ensures.told) depth 14 fits 6000)

pub returns-in_err-at-2 : goal.returns-in_err-at-2
unfolding codes codes_octets
returns-in_err-at-2 c = into-stop (record { operation = 0; retransmit = 0; precedence = 0; classification = 0 }) _ c.in_err-at-2.field-0.0 c.from_residual-in_err-at-2.ensures.1 (search (stopping, c.in_ok-at.ensures.told, c.in_err-at-2.ensures.told) depth 14 fits 6000)

pub returns-in_err-at-3 : goal.returns-in_err-at-3
unfolding codes codes_octets
returns-in_err-at-3 c = into-stop (record { operation = 0; retransmit = 0; precedence = 0; classification = 0 }) _ c.in_err-at-3.field-0.0 c.from_residual-in_err-at-3.ensures.1 (search (stopping, c.in_ok-at.ensures.told, c.in_ok-at-2.ensures.told, c.in_err-at-3.ensures.told) depth 14 fits 6000)

pub read_word-requires-4 : goal.read_word-requires-4
read_word-requires-4 c = (lit≤ tt, ready-part-long 4 (ready-next 4 (ready-next 4 (ready-next 4 (ready-none 16 c.args.x.now c.requires.0) (omega arith) _ _ c.x-1.given.0 c.in_ok-at.ensures.held.0) (omega arith) _ _ c.x-2-1.given.0 c.in_ok-at-2.ensures.held.0) (omega arith) _ _ c.x-3-1.given.0 c.in_ok-at-3.ensures.held.0) (omega arith))

pub returns : goal.returns
unfolding codes codes_octets
returns c = into-tell (record { operation = c.in_ok-at.ensures.value; retransmit = c.in_ok-at-2.ensures.value; precedence = c.in_ok-at-3.ensures.value; classification = c.read_word-4.ensures.value }) _ (search (telling, c.read_word-4.ensures.told, c.in_ok-at.ensures.told, c.in_ok-at-2.ensures.told, c.in_ok-at-3.ensures.told) depth 14 fits 6000) c.read_word-4.ensures.held (λ h. (ready-all (ready-next 4 (ready-next 4 (ready-next 4 (ready-next 4 (ready-none 16 c.args.x.now c.requires.0) (omega arith) _ _ c.x-1.given.0 c.in_ok-at.ensures.held.0) (omega arith) _ _ c.x-2-1.given.0 c.in_ok-at-2.ensures.held.0) (omega arith) _ _ c.x-3-1.given.0 c.in_ok-at-3.ensures.held.0) (omega arith) _ _ c.x-4-1.given.0 h.0), record { operation = c.in_ok-at.ensures.held.1; retransmit = c.in_ok-at-2.ensures.held.1; precedence = c.in_ok-at-3.ensures.held.1; classification = h.1 }))
