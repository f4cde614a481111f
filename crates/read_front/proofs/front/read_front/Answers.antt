-- `read_front::front::read_front` meets its contract. Assumes nothing.
use mathlib.Core.Path.{ap, ◌∙◌}
use native.Mathlib.Omega.{arith}
use Rattle.codec.proofs.Compose.{stopping}
use Rattle.into.proofs.Ready.{ready-none, ready-part, ready-part-long, ready-next, ready-all}
use Rattle.into.proofs.Telling.{telling, into-stop, into-tell}
use mathlib.Core.List.{List}
use Prim.Native.Nat.{ℕ}
use Rattle.into.proofs.Ready.{ready-put}
use Rattle.header.specs.Table.{front, room_behind}
use Rattle.header.specs.Zero.{no_front}
use Rattle.record_octets.specs.Record.{optional_addresses_in, front_octets}
use Rattle.record_octets.proofs.Back.{optional_addresses-back}
use Rattle.read_front.proofs.front.read_front.Goals as goal

pub returns-in_err-at : goal.returns-in_err-at
unfolding front
returns-in_err-at c = into-stop no_front _ c.in_err-at.field-0.0 c.from_residual.ensures.1 (search (stopping, c.in_err-at.ensures.told) depth 14 fits 6000)

pub returns-in_err-at-2 : goal.returns-in_err-at-2
unfolding front
returns-in_err-at-2 c = into-stop no_front _ c.in_err-at-2.field-0.0 c.from_residual-in_err-at-2.ensures.1 (search (stopping, c.in_ok-at.ensures.told, c.in_err-at-2.ensures.told) depth 14 fits 6000)

pub read_origin-requires : goal.read_origin-requires
read_origin-requires c = (ready-part 96 (ready-none 2672 c.args.x.now c.requires.0) (omega arith), ready-part-long 96 (ready-none 2672 c.args.x.now c.requires.0) (omega arith))

pub read_recipients-requires : goal.read_recipients-requires
read_recipients-requires c = (ready-part 1288 (ready-next 96 (ready-none 2672 c.args.x.now c.requires.0) (omega arith) _ _ c.x-1.given.0 c.in_ok-at.ensures.held.0) (omega arith), ready-part-long 1288 (ready-next 96 (ready-none 2672 c.args.x.now c.requires.0) (omega arith) _ _ c.x-1.given.0 c.in_ok-at.ensures.held.0) (omega arith))

pub read_information-requires : goal.read_information-requires
read_information-requires c =
    let v = c.in_ok-at-2.ensures.value in
    let y = c.in_ok-at-2.ensures.held.1 in
    let o = ready-put 1288 (ready-next 96 (ready-none 2672 c.args.x.now c.requires.0) (omega arith) _ _ c.x-1.given.0 c.in_ok-at.ensures.held.0) (omega arith) _ _ c.x-2-1.given.0 c.in_ok-at-2.ensures.held.0 in
    let m = c.room_behind-room.ensures ∙ ap (λ (l : List ℕ). room_behind (optional_addresses_in l)) o ∙ ap room_behind (optional_addresses-back v y) in
    (ready-part 1288 (ready-next 1288 (ready-next 96 (ready-none 2672 c.args.x.now c.requires.0) (omega arith) _ _ c.x-1.given.0 c.in_ok-at.ensures.held.0) (omega arith) _ _ c.x-2-1.given.0 c.in_ok-at-2.ensures.held.0) (omega arith), ready-part-long 1288 (ready-next 1288 (ready-next 96 (ready-none 2672 c.args.x.now c.requires.0) (omega arith) _ _ c.x-1.given.0 c.in_ok-at.ensures.held.0) (omega arith) _ _ c.x-2-1.given.0 c.in_ok-at-2.ensures.held.0) (omega arith), omega (arith, m))

pub returns : goal.returns
unfolding front front_octets
returns c =
    let v = c.in_ok-at-2.ensures.value in
    let y = c.in_ok-at-2.ensures.held.1 in
    let o = ready-put 1288 (ready-next 96 (ready-none 2672 c.args.x.now c.requires.0) (omega arith) _ _ c.x-1.given.0 c.in_ok-at.ensures.held.0) (omega arith) _ _ c.x-2-1.given.0 c.in_ok-at-2.ensures.held.0 in
    let m = c.room_behind-room.ensures ∙ ap (λ (l : List ℕ). room_behind (optional_addresses_in l)) o ∙ ap room_behind (optional_addresses-back v y) in
    let t = rw m at c.read_information.ensures.told in
    let u = c.in_ok-at.ensures.held.1 in
    let n = c.in_ok-at.ensures.value in
    into-tell (record { version = n.0; compression = n.1.0; originator = n.1.1; recipients = v; information = c.read_information.ensures.value }) _ (search (telling, t, c.in_ok-at-2.ensures.told, c.in_ok-at.ensures.told) depth 14) c.read_information.ensures.held (λ h. (ready-all (ready-next 1288 (ready-next 1288 (ready-next 96 (ready-none 2672 c.args.x.now c.requires.0) (omega arith) _ _ c.x-1.given.0 c.in_ok-at.ensures.held.0) (omega arith) _ _ c.x-2-1.given.0 c.in_ok-at-2.ensures.held.0) (omega arith) _ _ c.x-3-1.given.0 h.0), record { version = u.0; compression = u.1; originator = u.2; recipients = y; information = h.1 }))
