-- `read_front::address::read_entries` meets its contract. The invariant: what is read behind the entries so far completes the list. Assumes nothing.
use Prim.Native.Nat.{◌-◌, ◌<◌}
use mathlib.Core.Path.{◌≡◌, refl}
use lib.Dec.{lit<}
use Rattle.bits.specs.Datagrams.{bits_in}
use Rattle.cells.specs.Cells.{zeros, word_octets, flag_octets, mark_octets}
use Rattle.header.specs.Table.{address}
use Rattle.header.specs.Zero.{no_number, no_optional_text, no_address}
use Rattle.into.proofs.Putting.{Putting}
use Rattle.record_octets.specs.Record.{optional_number_octets, text_octets, optional_text_octets, address_octets}
use Rattle.record_octets.specs.Typed.{TypedAddress}
use Rattle.record_octets.proofs.Back.{address-long}
use Rattle.read_front.proofs.address.read_entries.Given as goal

pub fine : TypedAddress no_address
unfolding no_number no_optional_text no_address
fine = record { urn = record { value = lit< tt }; name = record { text = record { chars = refl; len = lit< tt } } }

pub nothing : address_octets no_address ≡ zeros 80
unfolding no_number no_optional_text no_address word_octets flag_octets mark_octets optional_number_octets text_octets optional_text_octets address_octets
nothing = refl

abbrev pub invariant-loop-more : goal.invariant-loop-more
invariant-loop-more l = (l.left < 16) × Putting no_address address address_octets TypedAddress 80 address-long nothing fine (bits_in l.s) 16 l.left l.initial.place.0 l.list l.n l.place.0

abbrev pub decreases-loop-more : goal.decreases-loop-more
decreases-loop-more l = 17 - l.n
