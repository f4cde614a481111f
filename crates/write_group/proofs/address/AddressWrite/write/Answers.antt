-- `write_group::address::AddressWrite::write` meets its contract. Assumes nothing.
use borrow.Author.Rules.{rules}
use Prim.Native.Nat.{ℕ}
use mathlib.Core.Bool.{Bool}
use mathlib.Core.List.{List}
use Rattle.codec.specs.Codec.{◌then_by◌, viewed, flag, tested}
use Rattle.codec.specs.Writes.{Writes}
use Rattle.codec.proofs.Compose.{writing}
use Rattle.header.specs.Table.{address, unit_name, optional_text}
use Rattle.header.specs.declared.OptionalText.{OptionalText}
use Rattle.record_octets.specs.Record.{address_in}
use Rattle.write_group.proofs.address.AddressWrite.write.Goals as goal

-- the name's bits do not depend on which form is due
name-writes : (b : Bool) (y : OptionalText) (s t : List ℕ) (p q : ℕ) → Writes (optional_text 64) y s t p q → Writes (unit_name b) y s t p q
unfolding optional_text unit_name ◌then_by◌ viewed flag tested address_in
name-writes b y s t p q e = record { bits = e.bits; ends = e.ends; next = e.next }

pub write_optional-at-requires : goal.write_optional-at-requires
unfolding address unit_name optional_text ◌then_by◌ viewed flag tested address_in
write_optional-at-requires c = search rules

pub write_optional_text-requires : goal.write_optional_text-requires
unfolding address unit_name optional_text ◌then_by◌ viewed flag tested address_in
write_optional_text-requires c = search rules

pub returns : goal.returns
unfolding address address_in
returns c = search (writing, name-writes) depth 12
