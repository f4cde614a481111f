-- `checker::front::check_information` meets its contract. Assumes nothing.
use Prim.Native.Nat.{ℕ, zero, suc, ◌-◌}
use mathlib.Core.Path.{◌≡◌, refl, sym, ◌∙◌}
use mathlib.Core.Bool.{true, false}
use native.Mathlib.Omega.{arith}
use Rattle.codec.specs.Codec.{first, flag, nothing, present, tested, viewed, ◌then_by◌}
use Rattle.codec.specs.Lists.{recurs}
use Rattle.codec.specs.Refusals.{check_no}
use Rattle.header.specs.Table.{information, addresses}
use Rattle.header.specs.declared.OptionalAddresses.{OptionalAddresses}
use Rattle.record_octets.specs.Record.{optional_addresses_in}
use Rattle.checker.proofs.front.check_information.Goals as goal

none_left : (n : ℕ) (x : OptionalAddresses) → x.present ≡ true → n ≡ 0 → 5 ≡ (information n).check x
unfolding information viewed ◌then_by◌ recurs tested flag first optional_addresses_in
none_left zero x e z = rw e
none_left (suc n) x e z = absurd (omega arith)

some_left : (n r : ℕ) (x : OptionalAddresses) → x.present ≡ true → (n ≡ 0 → ⊥) → r ≡ (addresses (n - 1)).check x.addresses → r ≡ (information n).check x
unfolding information viewed ◌then_by◌ recurs tested flag first present optional_addresses_in
some_left zero r x e z h = absurd (z refl)
some_left (suc n) r x e z h = rw e h

absent : (n : ℕ) (x : OptionalAddresses) → x.present ≡ false → 0 ≡ (information n).check x
unfolding information viewed ◌then_by◌ recurs tested flag first present nothing optional_addresses_in
absent zero x e = rw e
absent (suc n) x e = rw e

pub returns-then-room-eq0 : goal.returns-then-room-eq0
unfolding check_no optional_addresses_in
returns-then-room-eq0 c = none_left _ (optional_addresses_in c.args.x.now) (sym c.load_flag.ensures ∙ c.if-load_flag.true) c.if-room-eq0.true

pub returns-then-load_flag : goal.returns-then-load_flag
unfolding optional_addresses_in
returns-then-load_flag c = some_left _ _ (optional_addresses_in c.args.x.now) (sym c.load_flag.ensures ∙ c.if-load_flag.true) c.if-room-eq0.false c.check_addresses.ensures

pub returns : goal.returns
unfolding check_no optional_addresses_in
returns c = absent _ (optional_addresses_in c.args.x.now) (sym c.load_flag.ensures ∙ c.if-load_flag.false)
