-- `reader::wire::read_fields` meets its contract. Assumes nothing.
use mathlib.Core.Path.{◌≡◌, refl, ap, ◌∙◌}
use Prim.Native.Nat.{ℕ}
use mathlib.Core.Bool.{Bool}
use mathlib.Core.List.{List}
use native.Mathlib.Omega.{arith}
use Rattle.codec.proofs.Compose.{stopping, getting}
use Rattle.into.proofs.Ready.{ready-none, ready-part, ready-part-long, ready-put, ready-next, ready-all}
use Rattle.into.proofs.Telling.{telling-stop, telling-got}
use Rattle.codec.specs.Refusals.{Step, answer}
use Rattle.header.specs.Table.{blocks, wire}
use Rattle.header.specs.declared.Front.{Front}
use Rattle.header.specs.declared.Blocks.{Blocks}
use Rattle.header.specs.Zero.{no_number, no_front, no_blocks}
use Rattle.record_octets.specs.Record.{front_in, front_octets, header_octets}
use Rattle.record_octets.specs.Typed.{TypedFront}
use Rattle.record_octets.proofs.Back.{front-back}
use Rattle.reader.proofs.wire.read_fields.Goals as goal

-- the version that is loaded is the one that was read
version-read : (f : Front) (y : List ℕ) (version : ℕ) → y ≡ front_octets f → TypedFront f → version ≡ (front_in y).version → version ≡ f.version
version-read f y version o t e = e ∙ ap (λ (l : List ℕ). (front_in l).version) o ∙ ap (λ (g : Front). g.version) (front-back f t)

-- what is read by a version is read by an equal one
by-version : {v w : ℕ} (g : Blocks) (st : Step) (bs : List Bool) (p : ℕ) → v ≡ w → answer st g ≡ (blocks v).read bs p → answer st g ≡ (blocks w).read bs p
by-version g st bs p e h = h ∙ ap (λ (k : ℕ). (blocks k).read bs p) e

pub read_front-requires : goal.read_front-requires
read_front-requires c = (ready-part 2672 (ready-none 16312 c.args.h.now c.requires.0) (omega arith), ready-part-long 2672 (ready-none 16312 c.args.h.now c.requires.0) (omega arith))

pub returns-in_err-at : goal.returns-in_err-at
unfolding wire
returns-in_err-at c = telling-stop (record { front = no_front; size = no_number; blocks = no_blocks }) _ c.in_err-at.field-0.0 c.from_residual.ensures.1 (search (stopping, c.in_err-at.ensures.told) depth 14)

pub returns-in_err-size : goal.returns-in_err-size
unfolding wire
returns-in_err-size c = telling-stop (record { front = no_front; size = no_number; blocks = no_blocks }) _ c.in_err-size.field-0.0 c.from_residual-in_err-size.ensures.1 (search (stopping, c.in_ok-at.ensures.told, c.in_err-size.ensures) depth 14)

pub read_blocks-requires : goal.read_blocks-requires
read_blocks-requires c = (ready-part 13636 (ready-next 4 (ready-next 2672 (ready-none 16312 c.args.h.now c.requires.0) (omega arith) _ _ c.h-1.given.0 c.in_ok-at.ensures.held.0) (omega arith) _ _ c.h-2-1.given.0 c.store_mark.ensures) (omega arith), ready-part-long 13636 (ready-next 4 (ready-next 2672 (ready-none 16312 c.args.h.now c.requires.0) (omega arith) _ _ c.h-1.given.0 c.in_ok-at.ensures.held.0) (omega arith) _ _ c.h-2-1.given.0 c.store_mark.ensures) (omega arith))

pub returns-in_err-end : goal.returns-in_err-end
unfolding wire
returns-in_err-end c =
    let f = c.in_ok-at.ensures.held in
    let o = ready-put 2672 (ready-none 16312 c.args.h.now c.requires.0) (omega arith) _ _ c.h-1.given.0 f.0 in
    let v = version-read _ _ _ o f.1 c.front_version-version.ensures in
    let g = by-version _ _ _ _ v c.in_err-end.ensures.told in
    telling-stop (record { front = no_front; size = no_number; blocks = no_blocks }) _ c.in_err-end.field-0.0 c.from_residual-in_err-end.ensures.1 (search (stopping, c.in_ok-at.ensures.told, c.in_ok-size.ensures, g) depth 14)

pub returns : goal.returns
unfolding wire header_octets
returns c =
    let f = c.in_ok-at.ensures.held in
    let o = ready-put 2672 (ready-none 16312 c.args.h.now c.requires.0) (omega arith) _ _ c.h-1.given.0 f.0 in
    let v = version-read _ _ _ o f.1 c.front_version-version.ensures in
    let g = by-version _ _ _ _ v c.in_ok-end.ensures.told in
    telling-got (record { front = c.in_ok-at.ensures.value; size = c.in_ok-size.size; blocks = c.in_ok-end.ensures.value }) _ _
    (search (getting, g, c.in_ok-size.ensures, c.in_ok-at.ensures.told) depth 14)
    refl
    (ready-all (ready-next 13636 (ready-next 4 (ready-next 2672 (ready-none 16312 c.args.h.now c.requires.0) (omega arith) _ _ c.h-1.given.0 f.0) (omega arith) _ _ c.h-2-1.given.0 c.store_mark.ensures) (omega arith) _ _ c.h-3-1.given.0 c.in_ok-end.ensures.held.0))
    (record { front = f.1; blocks = c.in_ok-end.ensures.held.1 })
