-- `leaves::addressees::room_behind` meets its contract. Assumes nothing.
use Prim.Native.Nat.{ℕ, ◌-◌}
use mathlib.Core.Path.{◌≡◌, sym, ◌∙◌}
use mathlib.Core.Bool.{true, false}
use native.Mathlib.Omega.{arith}
use Rattle.header.specs.Table.{room_behind}
use Rattle.header.specs.declared.OptionalAddresses.{OptionalAddresses}
use Rattle.record_octets.specs.Record.{addresses_in, optional_addresses_in}
use Rattle.leaves.proofs.addressees.room_behind.Goals as goal

absent : (g : OptionalAddresses) → g.present ≡ false → 16 ≡ room_behind g
absent g e = rw e

there : (g : OptionalAddresses) → g.present ≡ true → (n : ℕ) → n ≡ 16 - g.addresses.count → n ≡ room_behind g
there g e n h = rw e h

pub returns-then-not-present : goal.returns-then-not-present
unfolding optional_addresses_in
returns-then-not-present c = absent (optional_addresses_in c.args.x.now) (sym c.load_flag-present.ensures ∙ c.if-not-present.true)

pub returns : goal.returns
unfolding optional_addresses_in addresses_in
returns c = there (optional_addresses_in c.args.x.now) (sym c.load_flag-present.ensures ∙ c.if-not-present.false) _ (omega (arith, c.saturating_sub.ensures, c.load_word-count.ensures))
