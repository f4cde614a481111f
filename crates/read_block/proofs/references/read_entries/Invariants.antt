-- `read_block::references::read_entries` meets its contract. The invariant: what is read behind the entries so far completes the list. Assumes nothing.
use Prim.Native.Nat.{◌-◌}
use mathlib.Core.Path.{◌≡◌, refl}
use lib.Dec.{lit<}
use Rattle.bits.specs.Datagrams.{bits_in}
use Rattle.cells.specs.Cells.{zeros, word_octets, flag_octets, mark_octets}
use Rattle.header.specs.Table.{reference}
use Rattle.header.specs.Zero.{no_number, no_optional_text, no_address, no_dtg, no_stamp, no_reference}
use Rattle.into.proofs.Putting.{Putting}
use Rattle.record_octets.specs.Record.{optional_number_octets, text_octets, optional_text_octets, address_octets, date_octets, time_octets, dtg_octets, stamp_octets, reference_octets}
use Rattle.record_octets.specs.Typed.{TypedReference}
use Rattle.record_octets.proofs.Back.{reference-long}
use Rattle.read_block.proofs.references.read_entries.Given as goal

pub fine : TypedReference no_reference
unfolding no_number no_optional_text no_address no_dtg no_stamp no_reference
fine = record { address = record { urn = record { value = lit< tt }; name = record { text = record { chars = refl; len = lit< tt } } }; stamp = record { dtg = record { date = record { year = lit< tt; month = lit< tt; day = lit< tt }; time = record { hour = lit< tt; minute = lit< tt; second = lit< tt } }; extension = record { value = lit< tt } } }

pub nothing : reference_octets no_reference ≡ zeros 112
unfolding no_number no_optional_text no_address no_dtg no_stamp no_reference word_octets flag_octets mark_octets optional_number_octets text_octets optional_text_octets address_octets date_octets time_octets dtg_octets stamp_octets reference_octets
nothing = refl

abbrev pub invariant-loop-more : goal.invariant-loop-more
invariant-loop-more l = Putting no_reference reference reference_octets TypedReference 112 reference-long nothing fine (bits_in l.s) 4 3 l.initial.place.0 l.list l.n l.place.0

abbrev pub decreases-loop-more : goal.decreases-loop-more
decreases-loop-more l = 5 - l.n
