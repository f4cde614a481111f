-- `read_group::response::read_response` meets its contract. Assumes nothing.
use borrow.Author.Rules.{rules}
use native.Mathlib.Omega.{arith}
use Rattle.codec.proofs.Compose.{stopping}
use Rattle.into.proofs.Ready.{ready-none, ready-part, ready-part-long, ready-next, ready-all}
use Rattle.into.proofs.Telling.{telling, into-stop, into-tell}
use Rattle.header.specs.Table.{response}
use Rattle.header.specs.Zero.{no_response}
use Rattle.record_octets.specs.Record.{response_octets}
use Rattle.read_group.proofs.response.read_response.Goals as goal

pub returns-in_err-at : goal.returns-in_err-at
unfolding response response_octets
returns-in_err-at c = into-stop no_response _ c.in_err-at.field-0.0 c.from_residual.ensures.1 (search (stopping, c.in_err-at.ensures.told) depth 14 fits 6000)

pub returns-in_err-at-2 : goal.returns-in_err-at-2
unfolding response response_octets
returns-in_err-at-2 c = into-stop no_response _ c.in_err-at-2.field-0.0 c.from_residual-in_err-at-2.ensures.1 (search (stopping, c.in_ok-at.ensures.told, c.in_err-at-2.ensures.told) depth 14 fits 6000)

pub read_stamp-requires : goal.read_stamp-requires
read_stamp-requires c = (ready-part 32 (ready-none 124 c.args.x.now c.requires.0) (omega arith), ready-part-long 32 (ready-none 124 c.args.x.now c.requires.0) (omega arith))

pub read_compliance-requires : goal.read_compliance-requires
read_compliance-requires c = (ready-part 20 (ready-next 32 (ready-none 124 c.args.x.now c.requires.0) (omega arith) _ _ c.x-1.given.0 c.in_ok-at.ensures.held.0) (omega arith), ready-part-long 20 (ready-next 32 (ready-none 124 c.args.x.now c.requires.0) (omega arith) _ _ c.x-1.given.0 c.in_ok-at.ensures.held.0) (omega arith))

pub read_optional_text-requires : goal.read_optional_text-requires
read_optional_text-requires c = (ready-part 72 (ready-next 20 (ready-next 32 (ready-none 124 c.args.x.now c.requires.0) (omega arith) _ _ c.x-1.given.0 c.in_ok-at.ensures.held.0) (omega arith) _ _ c.x-2-1.given.0 c.in_ok-at-2.ensures.held.0) (omega arith), ready-part-long 72 (ready-next 20 (ready-next 32 (ready-none 124 c.args.x.now c.requires.0) (omega arith) _ _ c.x-1.given.0 c.in_ok-at.ensures.held.0) (omega arith) _ _ c.x-2-1.given.0 c.in_ok-at-2.ensures.held.0) (omega arith), search rules)

pub returns : goal.returns
unfolding response response_octets
returns c = into-tell (record { stamp = c.in_ok-at.ensures.value; compliance = c.in_ok-at-2.ensures.value; amplification = c.read_optional_text.ensures.value }) _ (search (telling, c.read_optional_text.ensures.told, c.in_ok-at.ensures.told, c.in_ok-at-2.ensures.told) depth 14 fits 6000) c.read_optional_text.ensures.held (λ h. (ready-all (ready-next 72 (ready-next 20 (ready-next 32 (ready-none 124 c.args.x.now c.requires.0) (omega arith) _ _ c.x-1.given.0 c.in_ok-at.ensures.held.0) (omega arith) _ _ c.x-2-1.given.0 c.in_ok-at-2.ensures.held.0) (omega arith) _ _ c.x-3-1.given.0 h.0), record { stamp = c.in_ok-at.ensures.held.1; compliance = c.in_ok-at-2.ensures.held.1; amplification = h.1 }))
