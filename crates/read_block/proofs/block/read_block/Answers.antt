-- `read_block::block::read_block` meets its contract. Assumes nothing.
use mathlib.Core.Path.{refl}
use native.Mathlib.Omega.{arith}
use Rattle.codec.proofs.Compose.{stopping}
use Rattle.into.proofs.Ready.{ready-none, ready-part, ready-part-long, ready-next, ready-all}
use Rattle.into.proofs.Telling.{telling, into-stop, into-closed}
use Rattle.codec.specs.Codec.{◌closed_by◌}
use Rattle.header.specs.Table.{block}
use Rattle.header.specs.Zero.{no_block}
use Rattle.record_octets.specs.Record.{block_octets}
use Rattle.read_block.proofs.block.read_block.Goals as goal

pub returns-in_err-at : goal.returns-in_err-at
unfolding block
returns-in_err-at c = into-stop no_block _ c.in_err-at.field-0.0 c.from_residual.ensures.1 (search (stopping, c.in_err-at.ensures.told) depth 14 fits 6000)

pub returns-in_err-at-2 : goal.returns-in_err-at-2
unfolding block
returns-in_err-at-2 c = into-stop no_block _ c.in_err-at-2.field-0.0 c.from_residual-in_err-at-2.ensures.1 (search (stopping, c.in_ok-at.ensures.told, c.in_err-at-2.ensures.told) depth 14 fits 6000)

pub returns-in_err-at-3 : goal.returns-in_err-at-3
unfolding block ◌closed_by◌
returns-in_err-at-3 c = into-stop no_block _ c.in_err-at-3.field-0.0 c.from_residual-in_err-at-3.ensures.1 (search (stopping, c.in_ok-at.ensures.told, c.in_ok-at-2.ensures.told, c.in_err-at-3.ensures.told) depth 14 fits 6000)

pub read_head-requires : goal.read_head-requires
read_head-requires c = (ready-part 268 (ready-none 852 c.args.x.now c.requires.0) (omega arith), ready-part-long 268 (ready-none 852 c.args.x.now c.requires.0) (omega arith))

pub read_optional_response-requires : goal.read_optional_response-requires
read_optional_response-requires c = (ready-part 128 (ready-next 268 (ready-none 852 c.args.x.now c.requires.0) (omega arith) _ _ c.x-1.given.0 c.in_ok-at.ensures.held.0) (omega arith), ready-part-long 128 (ready-next 268 (ready-none 852 c.args.x.now c.requires.0) (omega arith) _ _ c.x-1.given.0 c.in_ok-at.ensures.held.0) (omega arith))

pub read_optional_references-requires : goal.read_optional_references-requires
read_optional_references-requires c = (ready-part 456 (ready-next 128 (ready-next 268 (ready-none 852 c.args.x.now c.requires.0) (omega arith) _ _ c.x-1.given.0 c.in_ok-at.ensures.held.0) (omega arith) _ _ c.x-2-1.given.0 c.in_ok-at-2.ensures.held.0) (omega arith), ready-part-long 456 (ready-next 128 (ready-next 268 (ready-none 852 c.args.x.now c.requires.0) (omega arith) _ _ c.x-1.given.0 c.in_ok-at.ensures.held.0) (omega arith) _ _ c.x-2-1.given.0 c.in_ok-at-2.ensures.held.0) (omega arith))

pub returns : goal.returns
unfolding block ◌closed_by◌ block_octets
returns c =
    let v = c.in_ok-at.ensures.value in
    let y = c.in_ok-at.ensures.held.1 in
    into-closed (record { format = v.0; handling = v.1.0; times = v.1.1; response = c.in_ok-at-2.ensures.value; references = c.in_ok-at-3.ensures.value }) _ (search (telling, refl, c.read_zero.ensures, c.in_ok-at-3.ensures.told, c.in_ok-at-2.ensures.told, c.in_ok-at.ensures.told) depth 16 fits 8000) (ready-all (ready-next 456 (ready-next 128 (ready-next 268 (ready-none 852 c.args.x.now c.requires.0) (omega arith) _ _ c.x-1.given.0 c.in_ok-at.ensures.held.0) (omega arith) _ _ c.x-2-1.given.0 c.in_ok-at-2.ensures.held.0) (omega arith) _ _ c.x-3-1.given.0 c.in_ok-at-3.ensures.held.0), record { format = y.0; handling = y.1; times = y.2; response = c.in_ok-at-2.ensures.held.1; references = c.in_ok-at-3.ensures.held.1 })
