-- `read_block::block::read_entries` meets its contract. The invariant: what is read behind the entries so far completes the list. Assumes nothing.
use Prim.Native.Nat.{◌-◌}
use mathlib.Core.Path.{◌≡◌, refl}
use lib.Dec.{lit<}
use Rattle.bits.specs.Datagrams.{bits_in}
use Rattle.cells.specs.Cells.{zeros, word_octets, flag_octets, mark_octets, many_octets}
use Rattle.header.specs.Table.{block}
use Rattle.header.specs.Zero.{no_number, no_optional_text, no_address, no_dtg, no_stamp, no_reference, no_references, no_identity, no_format, no_handling, no_requests, no_times, no_response, no_block}
use Rattle.into.proofs.Putting.{Putting}
use Rattle.record_octets.specs.Record.{optional_number_octets, text_octets, optional_text_octets, address_octets, date_octets, time_octets, dtg_octets, stamp_octets, reference_octets, identity_octets, optional_identity_octets, format_octets, codes_octets, handling_octets, requests_octets, optional_requests_octets, optional_stamp_octets, optional_dtg_octets, times_octets, compliance_octets, response_octets, optional_response_octets, references_octets, optional_references_octets, block_octets}
use Rattle.record_octets.specs.Typed.{TypedBlock}
use Rattle.record_octets.proofs.Back.{block-long}
use Rattle.read_block.proofs.block.read_entries.Given as goal

pub fine : TypedBlock no_block
unfolding no_number no_optional_text no_address no_dtg no_stamp no_reference no_references no_identity no_format no_handling no_requests no_times no_response no_block
fine = record { format = record { umf = lit< tt; version = record { value = lit< tt }; identity = record { identity = record { fad = lit< tt; number = lit< tt; subtype = record { value = lit< tt } } }; file = record { text = record { chars = refl; len = lit< tt } } }; handling = record { size = record { value = lit< tt }; codes = record { operation = lit< tt; retransmit = lit< tt; precedence = lit< tt; classification = lit< tt }; marking = record { text = record { chars = refl; len = lit< tt } } }; times = record { origin = record { stamp = record { dtg = record { date = record { year = lit< tt; month = lit< tt; day = lit< tt }; time = record { hour = lit< tt; minute = lit< tt; second = lit< tt } }; extension = record { value = lit< tt } } }; perish = record { dtg = record { date = record { year = lit< tt; month = lit< tt; day = lit< tt }; time = record { hour = lit< tt; minute = lit< tt; second = lit< tt } } } }; response = record { response = record { stamp = record { dtg = record { date = record { year = lit< tt; month = lit< tt; day = lit< tt }; time = record { hour = lit< tt; minute = lit< tt; second = lit< tt } }; extension = record { value = lit< tt } }; compliance = record { code = lit< tt; cantco = record { value = lit< tt }; cantpro = record { value = lit< tt } }; amplification = record { text = record { chars = refl; len = lit< tt } } } }; references = record { references = record { list = (refl, (record { address = record { urn = record { value = lit< tt }; name = record { text = record { chars = refl; len = lit< tt } } }; stamp = record { dtg = record { date = record { year = lit< tt; month = lit< tt; day = lit< tt }; time = record { hour = lit< tt; minute = lit< tt; second = lit< tt } }; extension = record { value = lit< tt } } }, (record { address = record { urn = record { value = lit< tt }; name = record { text = record { chars = refl; len = lit< tt } } }; stamp = record { dtg = record { date = record { year = lit< tt; month = lit< tt; day = lit< tt }; time = record { hour = lit< tt; minute = lit< tt; second = lit< tt } }; extension = record { value = lit< tt } } }, (record { address = record { urn = record { value = lit< tt }; name = record { text = record { chars = refl; len = lit< tt } } }; stamp = record { dtg = record { date = record { year = lit< tt; month = lit< tt; day = lit< tt }; time = record { hour = lit< tt; minute = lit< tt; second = lit< tt } }; extension = record { value = lit< tt } } }, (record { address = record { urn = record { value = lit< tt }; name = record { text = record { chars = refl; len = lit< tt } } }; stamp = record { dtg = record { date = record { year = lit< tt; month = lit< tt; day = lit< tt }; time = record { hour = lit< tt; minute = lit< tt; second = lit< tt } }; extension = record { value = lit< tt } } }, tt))))); count = lit< tt } } }

pub nothing : block_octets no_block ≡ zeros 852
unfolding no_number no_optional_text no_address no_dtg no_stamp no_reference no_references no_identity no_format no_handling no_requests no_times no_response no_block word_octets flag_octets mark_octets optional_number_octets text_octets optional_text_octets address_octets date_octets time_octets dtg_octets stamp_octets reference_octets many_octets identity_octets optional_identity_octets format_octets codes_octets handling_octets requests_octets optional_requests_octets optional_stamp_octets optional_dtg_octets times_octets compliance_octets response_octets optional_response_octets references_octets optional_references_octets block_octets
nothing = refl

abbrev pub invariant-loop-more : goal.invariant-loop-more
invariant-loop-more l = Putting no_block (block l.version) block_octets TypedBlock 852 block-long nothing fine (bits_in l.s) 16 15 l.initial.place.0 l.list l.n l.place.0

abbrev pub decreases-loop-more : goal.decreases-loop-more
decreases-loop-more l = 17 - l.n
