-- `read_block::block::read_head` meets its contract. Assumes nothing.
use native.Mathlib.Omega.{arith}
use Rattle.codec.proofs.Compose.{stopping}
use Rattle.into.proofs.Ready.{ready-none, ready-part, ready-part-long, ready-next, ready-all}
use Rattle.into.proofs.Telling.{telling, into-stop, into-tell}
use Rattle.header.specs.Zero.{no_format, no_handling, no_times}
use Rattle.read_block.proofs.block.read_head.Goals as goal

pub returns-in_err-at : goal.returns-in_err-at
returns-in_err-at c = into-stop (no_format, (no_handling, no_times)) _ c.in_err-at.field-0.0 c.from_residual.ensures.1 (search (stopping, c.in_err-at.ensures.told) depth 14 fits 6000)

pub returns-in_err-at-2 : goal.returns-in_err-at-2
returns-in_err-at-2 c = into-stop (no_format, (no_handling, no_times)) _ c.in_err-at-2.field-0.0 c.from_residual-in_err-at-2.ensures.1 (search (stopping, c.in_ok-at.ensures.told, c.in_err-at-2.ensures.told) depth 14 fits 6000)

pub read_format-requires : goal.read_format-requires
read_format-requires c = (ready-part 104 (ready-none 268 c.args.x.now c.requires.0) (omega arith), ready-part-long 104 (ready-none 268 c.args.x.now c.requires.0) (omega arith))

pub read_handling-requires : goal.read_handling-requires
read_handling-requires c = (ready-part 96 (ready-next 104 (ready-none 268 c.args.x.now c.requires.0) (omega arith) _ _ c.x-1.given.0 c.in_ok-at.ensures.held.0) (omega arith), ready-part-long 96 (ready-next 104 (ready-none 268 c.args.x.now c.requires.0) (omega arith) _ _ c.x-1.given.0 c.in_ok-at.ensures.held.0) (omega arith))

pub read_times-requires : goal.read_times-requires
read_times-requires c = (ready-part 68 (ready-next 96 (ready-next 104 (ready-none 268 c.args.x.now c.requires.0) (omega arith) _ _ c.x-1.given.0 c.in_ok-at.ensures.held.0) (omega arith) _ _ c.x-2-1.given.0 c.in_ok-at-2.ensures.held.0) (omega arith), ready-part-long 68 (ready-next 96 (ready-next 104 (ready-none 268 c.args.x.now c.requires.0) (omega arith) _ _ c.x-1.given.0 c.in_ok-at.ensures.held.0) (omega arith) _ _ c.x-2-1.given.0 c.in_ok-at-2.ensures.held.0) (omega arith))

pub returns : goal.returns
returns c = into-tell (c.in_ok-at.ensures.value, (c.in_ok-at-2.ensures.value, c.read_times.ensures.value)) _ (search (telling, c.read_times.ensures.told, c.in_ok-at-2.ensures.told, c.in_ok-at.ensures.told) depth 14) c.read_times.ensures.held (λ h. (ready-all (ready-next 68 (ready-next 96 (ready-next 104 (ready-none 268 c.args.x.now c.requires.0) (omega arith) _ _ c.x-1.given.0 c.in_ok-at.ensures.held.0) (omega arith) _ _ c.x-2-1.given.0 c.in_ok-at-2.ensures.held.0) (omega arith) _ _ c.x-3-1.given.0 h.0), (c.in_ok-at.ensures.held.1, c.in_ok-at-2.ensures.held.1, h.1)))
