-- `read_block::references::read_reference` meets its contract. Assumes nothing.
use native.Mathlib.Omega.{arith}
use Rattle.codec.proofs.Compose.{stopping}
use Rattle.into.proofs.Ready.{ready-none, ready-part, ready-part-long, ready-next, ready-all}
use Rattle.into.proofs.Telling.{telling, into-stop, into-tell}
use Rattle.header.specs.Table.{reference}
use Rattle.header.specs.Zero.{no_reference}
use Rattle.record_octets.specs.Record.{reference_octets}
use Rattle.read_block.proofs.references.read_reference.Goals as goal

pub returns-in_err-at : goal.returns-in_err-at
unfolding reference reference_octets
returns-in_err-at c = into-stop no_reference _ c.in_err-at.field-0.0 c.from_residual.ensures.1 (search (stopping, c.in_err-at.ensures.told) depth 14 fits 6000)

pub read_address-requires : goal.read_address-requires
read_address-requires c = (ready-part 80 (ready-none 112 c.args.x.now c.requires.0) (omega arith), ready-part-long 80 (ready-none 112 c.args.x.now c.requires.0) (omega arith))

pub read_stamp-requires : goal.read_stamp-requires
read_stamp-requires c = (ready-part 32 (ready-next 80 (ready-none 112 c.args.x.now c.requires.0) (omega arith) _ _ c.x-1.given.0 c.in_ok-at.ensures.held.0) (omega arith), ready-part-long 32 (ready-next 80 (ready-none 112 c.args.x.now c.requires.0) (omega arith) _ _ c.x-1.given.0 c.in_ok-at.ensures.held.0) (omega arith))

pub returns : goal.returns
unfolding reference reference_octets
returns c = into-tell (record { address = c.in_ok-at.ensures.value; stamp = c.read_stamp.ensures.value }) _ (search (telling, c.read_stamp.ensures.told, c.in_ok-at.ensures.told) depth 14 fits 6000) c.read_stamp.ensures.held (λ h. (ready-all (ready-next 32 (ready-next 80 (ready-none 112 c.args.x.now c.requires.0) (omega arith) _ _ c.x-1.given.0 c.in_ok-at.ensures.held.0) (omega arith) _ _ c.x-2-1.given.0 h.0), record { address = c.in_ok-at.ensures.held.1; stamp = h.1 }))
