-- `read_front::front::read_origin` meets its contract. Assumes nothing.
use mathlib.Core.Bool.{false}
use native.Mathlib.Omega.{arith}
use Rattle.codec.proofs.Compose.{stopping}
use Rattle.into.proofs.Ready.{ready-none, ready-part, ready-part-long, ready-next, ready-all}
use Rattle.into.proofs.Telling.{telling, into-stop, into-tell}
use Rattle.header.specs.Zero.{no_number, no_address}
use Rattle.read_front.proofs.front.read_origin.Goals as goal

pub returns-in_err-at : goal.returns-in_err-at
returns-in_err-at c = into-stop (0, (no_number, record { present = false; address = no_address })) _ c.in_err-at.field-0.0 c.from_residual.ensures.1 (search (stopping, c.in_err-at.ensures.told) depth 14 fits 6000)

pub returns-in_err-at-2 : goal.returns-in_err-at-2
returns-in_err-at-2 c = into-stop (0, (no_number, record { present = false; address = no_address })) _ c.in_err-at-2.field-0.0 c.from_residual-in_err-at-2.ensures.1 (search (stopping, c.in_ok-at.ensures.told, c.in_err-at-2.ensures.told) depth 14 fits 6000)

pub read_originator-requires : goal.read_originator-requires
read_originator-requires c = (ready-part 84 (ready-next 8 (ready-next 4 (ready-none 96 c.args.x.now c.requires.0) (omega arith) _ _ c.x-1.given.0 c.in_ok-at.ensures.held.0) (omega arith) _ _ c.x-2-1.given.0 c.in_ok-at-2.ensures.held.0) (omega arith), ready-part-long 84 (ready-next 8 (ready-next 4 (ready-none 96 c.args.x.now c.requires.0) (omega arith) _ _ c.x-1.given.0 c.in_ok-at.ensures.held.0) (omega arith) _ _ c.x-2-1.given.0 c.in_ok-at-2.ensures.held.0) (omega arith))

pub returns : goal.returns
returns c = into-tell (c.in_ok-at.ensures.value, (c.in_ok-at-2.ensures.value, c.read_originator.ensures.value)) _ (search (telling, c.read_originator.ensures.told, c.in_ok-at-2.ensures.told, c.in_ok-at.ensures.told) depth 14) c.read_originator.ensures.held (λ h. (ready-all (ready-next 84 (ready-next 8 (ready-next 4 (ready-none 96 c.args.x.now c.requires.0) (omega arith) _ _ c.x-1.given.0 c.in_ok-at.ensures.held.0) (omega arith) _ _ c.x-2-1.given.0 c.in_ok-at-2.ensures.held.0) (omega arith) _ _ c.x-3-1.given.0 h.0), (c.in_ok-at.ensures.held.1, c.in_ok-at-2.ensures.held.1, h.1)))
