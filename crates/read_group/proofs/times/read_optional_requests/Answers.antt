-- `read_group::times::read_optional_requests` meets its contract. Assumes nothing.
use mathlib.Core.Path.{refl}
use mathlib.Core.Bool.{false}
use native.Mathlib.Omega.{arith}
use Rattle.codec.proofs.Compose.{getting, left_out, stopping}
use Rattle.cells.specs.Cells.{flag_octets}
use Rattle.into.proofs.Ready.{ready-none, ready-part, ready-part-long, ready-next, ready-all}
use Rattle.into.proofs.Telling.{telling, into-stop, into-tell, into-got}
use Rattle.header.specs.Table.{optional_requests}
use Rattle.header.specs.Zero.{no_requests}
use Rattle.record_octets.specs.Record.{optional_requests_octets, requests_octets}
use Rattle.read_group.proofs.times.read_optional_requests.Goals as goal

pub returns-in_err-present : goal.returns-in_err-present
unfolding optional_requests optional_requests_octets
returns-in_err-present c = into-stop (record { present = false; requests = no_requests }) _ c.in_err-present.field-0.0 c.from_residual.ensures.1 (search (stopping, c.in_err-present.ensures) depth 14 fits 6000)

pub read_requests-requires : goal.read_requests-requires
read_requests-requires c = (ready-part 3 (ready-next 1 (ready-none 4 c.args.x.now c.requires.0) (omega arith) _ _ c.x-1.given.0 c.store_flag.ensures) (omega arith), ready-part-long 3 (ready-next 1 (ready-none 4 c.args.x.now c.requires.0) (omega arith) _ _ c.x-1.given.0 c.store_flag.ensures) (omega arith))

pub returns-then-present : goal.returns-then-present
unfolding optional_requests optional_requests_octets
returns-then-present c = into-tell (record { present = c.in_ok-present.present; requests = c.read_requests.ensures.value }) _ (search (telling, refl, c.if-present.true, c.read_requests.ensures.told, c.in_ok-present.ensures) depth 14 fits 6000) c.read_requests.ensures.held (λ h. (ready-all (ready-next 3 (ready-next 1 (ready-none 4 c.args.x.now c.requires.0) (omega arith) _ _ c.x-1.given.0 c.store_flag.ensures) (omega arith) _ _ c.x-then-present-1.given.0 h.0), tt))

pub returns : goal.returns
unfolding optional_requests optional_requests_octets flag_octets requests_octets no_requests
returns c = into-got (record { present = false; requests = no_requests }) _ (left_out optional_requests _ _ (λ b. record { present = b; requests = no_requests }) _ _ c.if-present.false (search (getting, c.in_ok-present.ensures) depth 12)) c.requires.0 tt
