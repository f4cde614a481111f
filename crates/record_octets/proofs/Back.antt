-- A struct's octets are as many as it has, and they hold the struct. Assumes nothing. Written by layout/generate.py.
use Prim.Native.Nat.{ℕ, ◌+◌}
use mathlib.Core.Path.{◌≡◌, refl, sym, ap, ◌∙◌}
use mathlib.Core.List.{List, [], ◌++◌}
use native.Mathlib.Omega.{arith}
use lib.ListN.{length}
use Rattle.cells.specs.Cells.{part, word_in, word_octets, flag_in, flag_octets, mark_octets, many, many_octets}
use Rattle.cells.proofs.Parts.{join, part-last, part-front, word-long, word-back, flag-long, flag-back, mark-long, mark-back, many-long, many-back}
use Rattle.optional.specs.declared.OptionalNumber.{OptionalNumber}
use Rattle.text.specs.declared.Text.{Text}
use Rattle.header.specs.declared.OptionalText.{OptionalText}
use Rattle.header.specs.declared.Address.{Address}
use Rattle.header.specs.declared.OptionalAddress.{OptionalAddress}
use Rattle.header.specs.declared.Addresses.{Addresses}
use Rattle.header.specs.declared.OptionalAddresses.{OptionalAddresses}
use Rattle.header.specs.declared.Front.{Front}
use Rattle.header.specs.declared.Date.{Date}
use Rattle.header.specs.declared.Time.{Time}
use Rattle.header.specs.declared.Dtg.{Dtg}
use Rattle.header.specs.declared.OptionalDtg.{OptionalDtg}
use Rattle.header.specs.declared.Stamp.{Stamp}
use Rattle.header.specs.declared.OptionalStamp.{OptionalStamp}
use Rattle.header.specs.declared.Identity.{Identity}
use Rattle.header.specs.declared.OptionalIdentity.{OptionalIdentity}
use Rattle.header.specs.declared.Format.{Format}
use Rattle.header.specs.declared.Codes.{Codes}
use Rattle.header.specs.declared.Handling.{Handling}
use Rattle.header.specs.declared.Requests.{Requests}
use Rattle.header.specs.declared.OptionalRequests.{OptionalRequests}
use Rattle.header.specs.declared.Times.{Times}
use Rattle.header.specs.declared.Compliance.{Compliance}
use Rattle.header.specs.declared.Response.{Response}
use Rattle.header.specs.declared.OptionalResponse.{OptionalResponse}
use Rattle.header.specs.declared.Reference.{Reference}
use Rattle.header.specs.declared.References.{References}
use Rattle.header.specs.declared.OptionalReferences.{OptionalReferences}
use Rattle.header.specs.declared.Block.{Block}
use Rattle.header.specs.declared.Blocks.{Blocks}
use Rattle.header.specs.declared.Header.{Header}
use Rattle.record_octets.specs.Record.{optional_number_in, optional_number_octets, text_in, text_octets, optional_text_in, optional_text_octets, address_in, address_octets, optional_address_in, optional_address_octets, addresses_in, addresses_octets, optional_addresses_in, optional_addresses_octets, front_in, front_octets, date_in, date_octets, time_in, time_octets, dtg_in, dtg_octets, optional_dtg_in, optional_dtg_octets, stamp_in, stamp_octets, optional_stamp_in, optional_stamp_octets, identity_in, identity_octets, optional_identity_in, optional_identity_octets, format_in, format_octets, codes_in, codes_octets, handling_in, handling_octets, requests_in, requests_octets, optional_requests_in, optional_requests_octets, times_in, times_octets, compliance_in, compliance_octets, response_in, response_octets, optional_response_in, optional_response_octets, reference_in, reference_octets, references_in, references_octets, optional_references_in, optional_references_octets, block_in, block_octets, blocks_in, blocks_octets, header_in, header_octets}
use Rattle.record_octets.specs.Typed.{TypedOptionalNumber, TypedText, TypedOptionalText, TypedAddress, TypedOptionalAddress, TypedAddresses, TypedOptionalAddresses, TypedFront, TypedDate, TypedTime, TypedDtg, TypedOptionalDtg, TypedStamp, TypedOptionalStamp, TypedIdentity, TypedOptionalIdentity, TypedFormat, TypedCodes, TypedHandling, TypedTimes, TypedCompliance, TypedResponse, TypedOptionalResponse, TypedReference, TypedReferences, TypedOptionalReferences, TypedBlock, TypedBlocks, TypedHeader}

pub optional_number-long : (x : OptionalNumber) → TypedOptionalNumber x → length (optional_number_octets x) ≡ 8
unfolding optional_number_octets
optional_number-long x h =
    let l0 : length (mark_octets x.present) ≡ 4 = mark-long x.present in
    let l1 : length (word_octets x.value) ≡ 4 = word-long x.value in
    let p1 : length (mark_octets x.present) ≡ 4 = l0 in
    let p2 : length (mark_octets x.present ++ word_octets x.value) ≡ 8 = join (mark_octets x.present) (word_octets x.value) 4 4 p1 l1 in
    p2

pub optional_number-back : (x : OptionalNumber) → TypedOptionalNumber x → optional_number_in (optional_number_octets x) ≡ x
unfolding optional_number_in optional_number_octets
optional_number-back x h =
    let l0 : length (mark_octets x.present) ≡ 4 = mark-long x.present in
    let l1 : length (word_octets x.value) ≡ 4 = word-long x.value in
    let p1 : length (mark_octets x.present) ≡ 4 = l0 in
    let p2 : length (mark_octets x.present ++ word_octets x.value) ≡ 8 = join (mark_octets x.present) (word_octets x.value) 4 4 p1 l1 in
    let e0 : part 0 4 (mark_octets x.present ++ word_octets x.value) ≡ mark_octets x.present = part-front (mark_octets x.present) (word_octets x.value) 4 0 4 p1 (omega arith) ∙ part-last [] (mark_octets x.present) 0 4 refl l0 in
    let e1 : part 4 4 (mark_octets x.present ++ word_octets x.value) ≡ word_octets x.value = part-last (mark_octets x.present) (word_octets x.value) 4 4 p1 l1 in
    λ i. record { present = (ap flag_in e0 ∙ mark-back x.present) i; value = (ap word_in e1 ∙ word-back x.value h.value) i }

pub text-long : (x : Text) → TypedText x → length (text_octets x) ≡ 68
unfolding text_octets
text-long x h =
    let l0 : length x.chars ≡ 64 = h.chars in
    let l1 : length (word_octets x.len) ≡ 4 = word-long x.len in
    let p1 : length x.chars ≡ 64 = l0 in
    let p2 : length (x.chars ++ word_octets x.len) ≡ 68 = join x.chars (word_octets x.len) 64 4 p1 l1 in
    p2

pub text-back : (x : Text) → TypedText x → text_in (text_octets x) ≡ x
unfolding text_in text_octets
text-back x h =
    let l0 : length x.chars ≡ 64 = h.chars in
    let l1 : length (word_octets x.len) ≡ 4 = word-long x.len in
    let p1 : length x.chars ≡ 64 = l0 in
    let p2 : length (x.chars ++ word_octets x.len) ≡ 68 = join x.chars (word_octets x.len) 64 4 p1 l1 in
    let e0 : part 0 64 (x.chars ++ word_octets x.len) ≡ x.chars = part-front x.chars (word_octets x.len) 64 0 64 p1 (omega arith) ∙ part-last [] x.chars 0 64 refl l0 in
    let e1 : part 64 4 (x.chars ++ word_octets x.len) ≡ word_octets x.len = part-last x.chars (word_octets x.len) 64 4 p1 l1 in
    λ i. record { chars = e0 i; len = (ap word_in e1 ∙ word-back x.len h.len) i }

pub optional_text-long : (x : OptionalText) → TypedOptionalText x → length (optional_text_octets x) ≡ 72
unfolding optional_text_octets
optional_text-long x h =
    let l0 : length (mark_octets x.present) ≡ 4 = mark-long x.present in
    let l1 : length (text_octets x.text) ≡ 68 = text-long x.text h.text in
    let p1 : length (mark_octets x.present) ≡ 4 = l0 in
    let p2 : length (mark_octets x.present ++ text_octets x.text) ≡ 72 = join (mark_octets x.present) (text_octets x.text) 4 68 p1 l1 in
    p2

pub optional_text-back : (x : OptionalText) → TypedOptionalText x → optional_text_in (optional_text_octets x) ≡ x
unfolding optional_text_in optional_text_octets
optional_text-back x h =
    let l0 : length (mark_octets x.present) ≡ 4 = mark-long x.present in
    let l1 : length (text_octets x.text) ≡ 68 = text-long x.text h.text in
    let p1 : length (mark_octets x.present) ≡ 4 = l0 in
    let p2 : length (mark_octets x.present ++ text_octets x.text) ≡ 72 = join (mark_octets x.present) (text_octets x.text) 4 68 p1 l1 in
    let e0 : part 0 4 (mark_octets x.present ++ text_octets x.text) ≡ mark_octets x.present = part-front (mark_octets x.present) (text_octets x.text) 4 0 4 p1 (omega arith) ∙ part-last [] (mark_octets x.present) 0 4 refl l0 in
    let e1 : part 4 68 (mark_octets x.present ++ text_octets x.text) ≡ text_octets x.text = part-last (mark_octets x.present) (text_octets x.text) 4 68 p1 l1 in
    λ i. record { present = (ap flag_in e0 ∙ mark-back x.present) i; text = (ap text_in e1 ∙ text-back x.text h.text) i }

pub address-long : (x : Address) → TypedAddress x → length (address_octets x) ≡ 80
unfolding address_octets
address-long x h =
    let l0 : length (optional_number_octets x.urn) ≡ 8 = optional_number-long x.urn h.urn in
    let l1 : length (optional_text_octets x.name) ≡ 72 = optional_text-long x.name h.name in
    let p1 : length (optional_number_octets x.urn) ≡ 8 = l0 in
    let p2 : length (optional_number_octets x.urn ++ optional_text_octets x.name) ≡ 80 = join (optional_number_octets x.urn) (optional_text_octets x.name) 8 72 p1 l1 in
    p2

pub address-back : (x : Address) → TypedAddress x → address_in (address_octets x) ≡ x
unfolding address_in address_octets
address-back x h =
    let l0 : length (optional_number_octets x.urn) ≡ 8 = optional_number-long x.urn h.urn in
    let l1 : length (optional_text_octets x.name) ≡ 72 = optional_text-long x.name h.name in
    let p1 : length (optional_number_octets x.urn) ≡ 8 = l0 in
    let p2 : length (optional_number_octets x.urn ++ optional_text_octets x.name) ≡ 80 = join (optional_number_octets x.urn) (optional_text_octets x.name) 8 72 p1 l1 in
    let e0 : part 0 8 (optional_number_octets x.urn ++ optional_text_octets x.name) ≡ optional_number_octets x.urn = part-front (optional_number_octets x.urn) (optional_text_octets x.name) 8 0 8 p1 (omega arith) ∙ part-last [] (optional_number_octets x.urn) 0 8 refl l0 in
    let e1 : part 8 72 (optional_number_octets x.urn ++ optional_text_octets x.name) ≡ optional_text_octets x.name = part-last (optional_number_octets x.urn) (optional_text_octets x.name) 8 72 p1 l1 in
    λ i. record { urn = (ap optional_number_in e0 ∙ optional_number-back x.urn h.urn) i; name = (ap optional_text_in e1 ∙ optional_text-back x.name h.name) i }

pub optional_address-long : (x : OptionalAddress) → TypedOptionalAddress x → length (optional_address_octets x) ≡ 84
unfolding optional_address_octets
optional_address-long x h =
    let l0 : length (mark_octets x.present) ≡ 4 = mark-long x.present in
    let l1 : length (address_octets x.address) ≡ 80 = address-long x.address h.address in
    let p1 : length (mark_octets x.present) ≡ 4 = l0 in
    let p2 : length (mark_octets x.present ++ address_octets x.address) ≡ 84 = join (mark_octets x.present) (address_octets x.address) 4 80 p1 l1 in
    p2

pub optional_address-back : (x : OptionalAddress) → TypedOptionalAddress x → optional_address_in (optional_address_octets x) ≡ x
unfolding optional_address_in optional_address_octets
optional_address-back x h =
    let l0 : length (mark_octets x.present) ≡ 4 = mark-long x.present in
    let l1 : length (address_octets x.address) ≡ 80 = address-long x.address h.address in
    let p1 : length (mark_octets x.present) ≡ 4 = l0 in
    let p2 : length (mark_octets x.present ++ address_octets x.address) ≡ 84 = join (mark_octets x.present) (address_octets x.address) 4 80 p1 l1 in
    let e0 : part 0 4 (mark_octets x.present ++ address_octets x.address) ≡ mark_octets x.present = part-front (mark_octets x.present) (address_octets x.address) 4 0 4 p1 (omega arith) ∙ part-last [] (mark_octets x.present) 0 4 refl l0 in
    let e1 : part 4 80 (mark_octets x.present ++ address_octets x.address) ≡ address_octets x.address = part-last (mark_octets x.present) (address_octets x.address) 4 80 p1 l1 in
    λ i. record { present = (ap flag_in e0 ∙ mark-back x.present) i; address = (ap address_in e1 ∙ address-back x.address h.address) i }

pub addresses-long : (x : Addresses) → TypedAddresses x → length (addresses_octets x) ≡ 1284
unfolding addresses_octets
addresses-long x h =
    let l0 : length (many_octets address_octets x.list) ≡ 1280 = many-long address_in address_octets TypedAddress 80 address-long address-back x.list 16 h.list.0 h.list.1 in
    let l1 : length (word_octets x.count) ≡ 4 = word-long x.count in
    let p1 : length (many_octets address_octets x.list) ≡ 1280 = l0 in
    let p2 : length (many_octets address_octets x.list ++ word_octets x.count) ≡ 1284 = join (many_octets address_octets x.list) (word_octets x.count) 1280 4 p1 l1 in
    p2

pub addresses-back : (x : Addresses) → TypedAddresses x → addresses_in (addresses_octets x) ≡ x
unfolding addresses_in addresses_octets
addresses-back x h =
    let l0 : length (many_octets address_octets x.list) ≡ 1280 = many-long address_in address_octets TypedAddress 80 address-long address-back x.list 16 h.list.0 h.list.1 in
    let l1 : length (word_octets x.count) ≡ 4 = word-long x.count in
    let p1 : length (many_octets address_octets x.list) ≡ 1280 = l0 in
    let p2 : length (many_octets address_octets x.list ++ word_octets x.count) ≡ 1284 = join (many_octets address_octets x.list) (word_octets x.count) 1280 4 p1 l1 in
    let e0 : part 0 1280 (many_octets address_octets x.list ++ word_octets x.count) ≡ many_octets address_octets x.list = part-front (many_octets address_octets x.list) (word_octets x.count) 1280 0 1280 p1 (omega arith) ∙ part-last [] (many_octets address_octets x.list) 0 1280 refl l0 in
    let e1 : part 1280 4 (many_octets address_octets x.list ++ word_octets x.count) ≡ word_octets x.count = part-last (many_octets address_octets x.list) (word_octets x.count) 1280 4 p1 l1 in
    λ i. record { list = (ap (many address_in 80 16) e0 ∙ many-back address_in address_octets TypedAddress 80 address-long address-back x.list 16 h.list.0 h.list.1) i; count = (ap word_in e1 ∙ word-back x.count h.count) i }

pub optional_addresses-long : (x : OptionalAddresses) → TypedOptionalAddresses x → length (optional_addresses_octets x) ≡ 1288
unfolding optional_addresses_octets
optional_addresses-long x h =
    let l0 : length (mark_octets x.present) ≡ 4 = mark-long x.present in
    let l1 : length (addresses_octets x.addresses) ≡ 1284 = addresses-long x.addresses h.addresses in
    let p1 : length (mark_octets x.present) ≡ 4 = l0 in
    let p2 : length (mark_octets x.present ++ addresses_octets x.addresses) ≡ 1288 = join (mark_octets x.present) (addresses_octets x.addresses) 4 1284 p1 l1 in
    p2

pub optional_addresses-back : (x : OptionalAddresses) → TypedOptionalAddresses x → optional_addresses_in (optional_addresses_octets x) ≡ x
unfolding optional_addresses_in optional_addresses_octets
optional_addresses-back x h =
    let l0 : length (mark_octets x.present) ≡ 4 = mark-long x.present in
    let l1 : length (addresses_octets x.addresses) ≡ 1284 = addresses-long x.addresses h.addresses in
    let p1 : length (mark_octets x.present) ≡ 4 = l0 in
    let p2 : length (mark_octets x.present ++ addresses_octets x.addresses) ≡ 1288 = join (mark_octets x.present) (addresses_octets x.addresses) 4 1284 p1 l1 in
    let e0 : part 0 4 (mark_octets x.present ++ addresses_octets x.addresses) ≡ mark_octets x.present = part-front (mark_octets x.present) (addresses_octets x.addresses) 4 0 4 p1 (omega arith) ∙ part-last [] (mark_octets x.present) 0 4 refl l0 in
    let e1 : part 4 1284 (mark_octets x.present ++ addresses_octets x.addresses) ≡ addresses_octets x.addresses = part-last (mark_octets x.present) (addresses_octets x.addresses) 4 1284 p1 l1 in
    λ i. record { present = (ap flag_in e0 ∙ mark-back x.present) i; addresses = (ap addresses_in e1 ∙ addresses-back x.addresses h.addresses) i }

pub front-long : (x : Front) → TypedFront x → length (front_octets x) ≡ 2672
unfolding front_octets
front-long x h =
    let l0 : length (word_octets x.version) ≡ 4 = word-long x.version in
    let l1 : length (optional_number_octets x.compression) ≡ 8 = optional_number-long x.compression h.compression in
    let l2 : length (optional_address_octets x.originator) ≡ 84 = optional_address-long x.originator h.originator in
    let l3 : length (optional_addresses_octets x.recipients) ≡ 1288 = optional_addresses-long x.recipients h.recipients in
    let l4 : length (optional_addresses_octets x.information) ≡ 1288 = optional_addresses-long x.information h.information in
    let p1 : length (word_octets x.version) ≡ 4 = l0 in
    let p2 : length (word_octets x.version ++ optional_number_octets x.compression) ≡ 12 = join (word_octets x.version) (optional_number_octets x.compression) 4 8 p1 l1 in
    let p3 : length (word_octets x.version ++ optional_number_octets x.compression ++ optional_address_octets x.originator) ≡ 96 = join (word_octets x.version ++ optional_number_octets x.compression) (optional_address_octets x.originator) 12 84 p2 l2 in
    let p4 : length (word_octets x.version ++ optional_number_octets x.compression ++ optional_address_octets x.originator ++ optional_addresses_octets x.recipients) ≡ 1384 = join (word_octets x.version ++ optional_number_octets x.compression ++ optional_address_octets x.originator) (optional_addresses_octets x.recipients) 96 1288 p3 l3 in
    let p5 : length (word_octets x.version ++ optional_number_octets x.compression ++ optional_address_octets x.originator ++ optional_addresses_octets x.recipients ++ optional_addresses_octets x.information) ≡ 2672 = join (word_octets x.version ++ optional_number_octets x.compression ++ optional_address_octets x.originator ++ optional_addresses_octets x.recipients) (optional_addresses_octets x.information) 1384 1288 p4 l4 in
    p5

pub front-back : (x : Front) → TypedFront x → front_in (front_octets x) ≡ x
unfolding front_in front_octets
front-back x h =
    let l0 : length (word_octets x.version) ≡ 4 = word-long x.version in
    let l1 : length (optional_number_octets x.compression) ≡ 8 = optional_number-long x.compression h.compression in
    let l2 : length (optional_address_octets x.originator) ≡ 84 = optional_address-long x.originator h.originator in
    let l3 : length (optional_addresses_octets x.recipients) ≡ 1288 = optional_addresses-long x.recipients h.recipients in
    let l4 : length (optional_addresses_octets x.information) ≡ 1288 = optional_addresses-long x.information h.information in
    let p1 : length (word_octets x.version) ≡ 4 = l0 in
    let p2 : length (word_octets x.version ++ optional_number_octets x.compression) ≡ 12 = join (word_octets x.version) (optional_number_octets x.compression) 4 8 p1 l1 in
    let p3 : length (word_octets x.version ++ optional_number_octets x.compression ++ optional_address_octets x.originator) ≡ 96 = join (word_octets x.version ++ optional_number_octets x.compression) (optional_address_octets x.originator) 12 84 p2 l2 in
    let p4 : length (word_octets x.version ++ optional_number_octets x.compression ++ optional_address_octets x.originator ++ optional_addresses_octets x.recipients) ≡ 1384 = join (word_octets x.version ++ optional_number_octets x.compression ++ optional_address_octets x.originator) (optional_addresses_octets x.recipients) 96 1288 p3 l3 in
    let p5 : length (word_octets x.version ++ optional_number_octets x.compression ++ optional_address_octets x.originator ++ optional_addresses_octets x.recipients ++ optional_addresses_octets x.information) ≡ 2672 = join (word_octets x.version ++ optional_number_octets x.compression ++ optional_address_octets x.originator ++ optional_addresses_octets x.recipients) (optional_addresses_octets x.information) 1384 1288 p4 l4 in
    let e0 : part 0 4 (word_octets x.version ++ optional_number_octets x.compression ++ optional_address_octets x.originator ++ optional_addresses_octets x.recipients ++ optional_addresses_octets x.information) ≡ word_octets x.version = part-front (word_octets x.version ++ optional_number_octets x.compression ++ optional_address_octets x.originator ++ optional_addresses_octets x.recipients) (optional_addresses_octets x.information) 1384 0 4 p4 (omega arith) ∙ part-front (word_octets x.version ++ optional_number_octets x.compression ++ optional_address_octets x.originator) (optional_addresses_octets x.recipients) 96 0 4 p3 (omega arith) ∙ part-front (word_octets x.version ++ optional_number_octets x.compression) (optional_address_octets x.originator) 12 0 4 p2 (omega arith) ∙ part-front (word_octets x.version) (optional_number_octets x.compression) 4 0 4 p1 (omega arith) ∙ part-last [] (word_octets x.version) 0 4 refl l0 in
    let e1 : part 4 8 (word_octets x.version ++ optional_number_octets x.compression ++ optional_address_octets x.originator ++ optional_addresses_octets x.recipients ++ optional_addresses_octets x.information) ≡ optional_number_octets x.compression = part-front (word_octets x.version ++ optional_number_octets x.compression ++ optional_address_octets x.originator ++ optional_addresses_octets x.recipients) (optional_addresses_octets x.information) 1384 4 8 p4 (omega arith) ∙ part-front (word_octets x.version ++ optional_number_octets x.compression ++ optional_address_octets x.originator) (optional_addresses_octets x.recipients) 96 4 8 p3 (omega arith) ∙ part-front (word_octets x.version ++ optional_number_octets x.compression) (optional_address_octets x.originator) 12 4 8 p2 (omega arith) ∙ part-last (word_octets x.version) (optional_number_octets x.compression) 4 8 p1 l1 in
    let e2 : part 12 84 (word_octets x.version ++ optional_number_octets x.compression ++ optional_address_octets x.originator ++ optional_addresses_octets x.recipients ++ optional_addresses_octets x.information) ≡ optional_address_octets x.originator = part-front (word_octets x.version ++ optional_number_octets x.compression ++ optional_address_octets x.originator ++ optional_addresses_octets x.recipients) (optional_addresses_octets x.information) 1384 12 84 p4 (omega arith) ∙ part-front (word_octets x.version ++ optional_number_octets x.compression ++ optional_address_octets x.originator) (optional_addresses_octets x.recipients) 96 12 84 p3 (omega arith) ∙ part-last (word_octets x.version ++ optional_number_octets x.compression) (optional_address_octets x.originator) 12 84 p2 l2 in
    let e3 : part 96 1288 (word_octets x.version ++ optional_number_octets x.compression ++ optional_address_octets x.originator ++ optional_addresses_octets x.recipients ++ optional_addresses_octets x.information) ≡ optional_addresses_octets x.recipients = part-front (word_octets x.version ++ optional_number_octets x.compression ++ optional_address_octets x.originator ++ optional_addresses_octets x.recipients) (optional_addresses_octets x.information) 1384 96 1288 p4 (omega arith) ∙ part-last (word_octets x.version ++ optional_number_octets x.compression ++ optional_address_octets x.originator) (optional_addresses_octets x.recipients) 96 1288 p3 l3 in
    let e4 : part 1384 1288 (word_octets x.version ++ optional_number_octets x.compression ++ optional_address_octets x.originator ++ optional_addresses_octets x.recipients ++ optional_addresses_octets x.information) ≡ optional_addresses_octets x.information = part-last (word_octets x.version ++ optional_number_octets x.compression ++ optional_address_octets x.originator ++ optional_addresses_octets x.recipients) (optional_addresses_octets x.information) 1384 1288 p4 l4 in
    λ i. record { version = (ap word_in e0 ∙ word-back x.version h.version) i; compression = (ap optional_number_in e1 ∙ optional_number-back x.compression h.compression) i; originator = (ap optional_address_in e2 ∙ optional_address-back x.originator h.originator) i; recipients = (ap optional_addresses_in e3 ∙ optional_addresses-back x.recipients h.recipients) i; information = (ap optional_addresses_in e4 ∙ optional_addresses-back x.information h.information) i }

pub date-long : (x : Date) → TypedDate x → length (date_octets x) ≡ 12
unfolding date_octets
date-long x h =
    let l0 : length (word_octets x.year) ≡ 4 = word-long x.year in
    let l1 : length (word_octets x.month) ≡ 4 = word-long x.month in
    let l2 : length (word_octets x.day) ≡ 4 = word-long x.day in
    let p1 : length (word_octets x.year) ≡ 4 = l0 in
    let p2 : length (word_octets x.year ++ word_octets x.month) ≡ 8 = join (word_octets x.year) (word_octets x.month) 4 4 p1 l1 in
    let p3 : length (word_octets x.year ++ word_octets x.month ++ word_octets x.day) ≡ 12 = join (word_octets x.year ++ word_octets x.month) (word_octets x.day) 8 4 p2 l2 in
    p3

pub date-back : (x : Date) → TypedDate x → date_in (date_octets x) ≡ x
unfolding date_in date_octets
date-back x h =
    let l0 : length (word_octets x.year) ≡ 4 = word-long x.year in
    let l1 : length (word_octets x.month) ≡ 4 = word-long x.month in
    let l2 : length (word_octets x.day) ≡ 4 = word-long x.day in
    let p1 : length (word_octets x.year) ≡ 4 = l0 in
    let p2 : length (word_octets x.year ++ word_octets x.month) ≡ 8 = join (word_octets x.year) (word_octets x.month) 4 4 p1 l1 in
    let p3 : length (word_octets x.year ++ word_octets x.month ++ word_octets x.day) ≡ 12 = join (word_octets x.year ++ word_octets x.month) (word_octets x.day) 8 4 p2 l2 in
    let e0 : part 0 4 (word_octets x.year ++ word_octets x.month ++ word_octets x.day) ≡ word_octets x.year = part-front (word_octets x.year ++ word_octets x.month) (word_octets x.day) 8 0 4 p2 (omega arith) ∙ part-front (word_octets x.year) (word_octets x.month) 4 0 4 p1 (omega arith) ∙ part-last [] (word_octets x.year) 0 4 refl l0 in
    let e1 : part 4 4 (word_octets x.year ++ word_octets x.month ++ word_octets x.day) ≡ word_octets x.month = part-front (word_octets x.year ++ word_octets x.month) (word_octets x.day) 8 4 4 p2 (omega arith) ∙ part-last (word_octets x.year) (word_octets x.month) 4 4 p1 l1 in
    let e2 : part 8 4 (word_octets x.year ++ word_octets x.month ++ word_octets x.day) ≡ word_octets x.day = part-last (word_octets x.year ++ word_octets x.month) (word_octets x.day) 8 4 p2 l2 in
    λ i. record { year = (ap word_in e0 ∙ word-back x.year h.year) i; month = (ap word_in e1 ∙ word-back x.month h.month) i; day = (ap word_in e2 ∙ word-back x.day h.day) i }

pub time-long : (x : Time) → TypedTime x → length (time_octets x) ≡ 12
unfolding time_octets
time-long x h =
    let l0 : length (word_octets x.hour) ≡ 4 = word-long x.hour in
    let l1 : length (word_octets x.minute) ≡ 4 = word-long x.minute in
    let l2 : length (word_octets x.second) ≡ 4 = word-long x.second in
    let p1 : length (word_octets x.hour) ≡ 4 = l0 in
    let p2 : length (word_octets x.hour ++ word_octets x.minute) ≡ 8 = join (word_octets x.hour) (word_octets x.minute) 4 4 p1 l1 in
    let p3 : length (word_octets x.hour ++ word_octets x.minute ++ word_octets x.second) ≡ 12 = join (word_octets x.hour ++ word_octets x.minute) (word_octets x.second) 8 4 p2 l2 in
    p3

pub time-back : (x : Time) → TypedTime x → time_in (time_octets x) ≡ x
unfolding time_in time_octets
time-back x h =
    let l0 : length (word_octets x.hour) ≡ 4 = word-long x.hour in
    let l1 : length (word_octets x.minute) ≡ 4 = word-long x.minute in
    let l2 : length (word_octets x.second) ≡ 4 = word-long x.second in
    let p1 : length (word_octets x.hour) ≡ 4 = l0 in
    let p2 : length (word_octets x.hour ++ word_octets x.minute) ≡ 8 = join (word_octets x.hour) (word_octets x.minute) 4 4 p1 l1 in
    let p3 : length (word_octets x.hour ++ word_octets x.minute ++ word_octets x.second) ≡ 12 = join (word_octets x.hour ++ word_octets x.minute) (word_octets x.second) 8 4 p2 l2 in
    let e0 : part 0 4 (word_octets x.hour ++ word_octets x.minute ++ word_octets x.second) ≡ word_octets x.hour = part-front (word_octets x.hour ++ word_octets x.minute) (word_octets x.second) 8 0 4 p2 (omega arith) ∙ part-front (word_octets x.hour) (word_octets x.minute) 4 0 4 p1 (omega arith) ∙ part-last [] (word_octets x.hour) 0 4 refl l0 in
    let e1 : part 4 4 (word_octets x.hour ++ word_octets x.minute ++ word_octets x.second) ≡ word_octets x.minute = part-front (word_octets x.hour ++ word_octets x.minute) (word_octets x.second) 8 4 4 p2 (omega arith) ∙ part-last (word_octets x.hour) (word_octets x.minute) 4 4 p1 l1 in
    let e2 : part 8 4 (word_octets x.hour ++ word_octets x.minute ++ word_octets x.second) ≡ word_octets x.second = part-last (word_octets x.hour ++ word_octets x.minute) (word_octets x.second) 8 4 p2 l2 in
    λ i. record { hour = (ap word_in e0 ∙ word-back x.hour h.hour) i; minute = (ap word_in e1 ∙ word-back x.minute h.minute) i; second = (ap word_in e2 ∙ word-back x.second h.second) i }

pub dtg-long : (x : Dtg) → TypedDtg x → length (dtg_octets x) ≡ 24
unfolding dtg_octets
dtg-long x h =
    let l0 : length (date_octets x.date) ≡ 12 = date-long x.date h.date in
    let l1 : length (time_octets x.time) ≡ 12 = time-long x.time h.time in
    let p1 : length (date_octets x.date) ≡ 12 = l0 in
    let p2 : length (date_octets x.date ++ time_octets x.time) ≡ 24 = join (date_octets x.date) (time_octets x.time) 12 12 p1 l1 in
    p2

pub dtg-back : (x : Dtg) → TypedDtg x → dtg_in (dtg_octets x) ≡ x
unfolding dtg_in dtg_octets
dtg-back x h =
    let l0 : length (date_octets x.date) ≡ 12 = date-long x.date h.date in
    let l1 : length (time_octets x.time) ≡ 12 = time-long x.time h.time in
    let p1 : length (date_octets x.date) ≡ 12 = l0 in
    let p2 : length (date_octets x.date ++ time_octets x.time) ≡ 24 = join (date_octets x.date) (time_octets x.time) 12 12 p1 l1 in
    let e0 : part 0 12 (date_octets x.date ++ time_octets x.time) ≡ date_octets x.date = part-front (date_octets x.date) (time_octets x.time) 12 0 12 p1 (omega arith) ∙ part-last [] (date_octets x.date) 0 12 refl l0 in
    let e1 : part 12 12 (date_octets x.date ++ time_octets x.time) ≡ time_octets x.time = part-last (date_octets x.date) (time_octets x.time) 12 12 p1 l1 in
    λ i. record { date = (ap date_in e0 ∙ date-back x.date h.date) i; time = (ap time_in e1 ∙ time-back x.time h.time) i }

pub optional_dtg-long : (x : OptionalDtg) → TypedOptionalDtg x → length (optional_dtg_octets x) ≡ 28
unfolding optional_dtg_octets
optional_dtg-long x h =
    let l0 : length (mark_octets x.present) ≡ 4 = mark-long x.present in
    let l1 : length (dtg_octets x.dtg) ≡ 24 = dtg-long x.dtg h.dtg in
    let p1 : length (mark_octets x.present) ≡ 4 = l0 in
    let p2 : length (mark_octets x.present ++ dtg_octets x.dtg) ≡ 28 = join (mark_octets x.present) (dtg_octets x.dtg) 4 24 p1 l1 in
    p2

pub optional_dtg-back : (x : OptionalDtg) → TypedOptionalDtg x → optional_dtg_in (optional_dtg_octets x) ≡ x
unfolding optional_dtg_in optional_dtg_octets
optional_dtg-back x h =
    let l0 : length (mark_octets x.present) ≡ 4 = mark-long x.present in
    let l1 : length (dtg_octets x.dtg) ≡ 24 = dtg-long x.dtg h.dtg in
    let p1 : length (mark_octets x.present) ≡ 4 = l0 in
    let p2 : length (mark_octets x.present ++ dtg_octets x.dtg) ≡ 28 = join (mark_octets x.present) (dtg_octets x.dtg) 4 24 p1 l1 in
    let e0 : part 0 4 (mark_octets x.present ++ dtg_octets x.dtg) ≡ mark_octets x.present = part-front (mark_octets x.present) (dtg_octets x.dtg) 4 0 4 p1 (omega arith) ∙ part-last [] (mark_octets x.present) 0 4 refl l0 in
    let e1 : part 4 24 (mark_octets x.present ++ dtg_octets x.dtg) ≡ dtg_octets x.dtg = part-last (mark_octets x.present) (dtg_octets x.dtg) 4 24 p1 l1 in
    λ i. record { present = (ap flag_in e0 ∙ mark-back x.present) i; dtg = (ap dtg_in e1 ∙ dtg-back x.dtg h.dtg) i }

pub stamp-long : (x : Stamp) → TypedStamp x → length (stamp_octets x) ≡ 32
unfolding stamp_octets
stamp-long x h =
    let l0 : length (dtg_octets x.dtg) ≡ 24 = dtg-long x.dtg h.dtg in
    let l1 : length (optional_number_octets x.extension) ≡ 8 = optional_number-long x.extension h.extension in
    let p1 : length (dtg_octets x.dtg) ≡ 24 = l0 in
    let p2 : length (dtg_octets x.dtg ++ optional_number_octets x.extension) ≡ 32 = join (dtg_octets x.dtg) (optional_number_octets x.extension) 24 8 p1 l1 in
    p2

pub stamp-back : (x : Stamp) → TypedStamp x → stamp_in (stamp_octets x) ≡ x
unfolding stamp_in stamp_octets
stamp-back x h =
    let l0 : length (dtg_octets x.dtg) ≡ 24 = dtg-long x.dtg h.dtg in
    let l1 : length (optional_number_octets x.extension) ≡ 8 = optional_number-long x.extension h.extension in
    let p1 : length (dtg_octets x.dtg) ≡ 24 = l0 in
    let p2 : length (dtg_octets x.dtg ++ optional_number_octets x.extension) ≡ 32 = join (dtg_octets x.dtg) (optional_number_octets x.extension) 24 8 p1 l1 in
    let e0 : part 0 24 (dtg_octets x.dtg ++ optional_number_octets x.extension) ≡ dtg_octets x.dtg = part-front (dtg_octets x.dtg) (optional_number_octets x.extension) 24 0 24 p1 (omega arith) ∙ part-last [] (dtg_octets x.dtg) 0 24 refl l0 in
    let e1 : part 24 8 (dtg_octets x.dtg ++ optional_number_octets x.extension) ≡ optional_number_octets x.extension = part-last (dtg_octets x.dtg) (optional_number_octets x.extension) 24 8 p1 l1 in
    λ i. record { dtg = (ap dtg_in e0 ∙ dtg-back x.dtg h.dtg) i; extension = (ap optional_number_in e1 ∙ optional_number-back x.extension h.extension) i }

pub optional_stamp-long : (x : OptionalStamp) → TypedOptionalStamp x → length (optional_stamp_octets x) ≡ 36
unfolding optional_stamp_octets
optional_stamp-long x h =
    let l0 : length (mark_octets x.present) ≡ 4 = mark-long x.present in
    let l1 : length (stamp_octets x.stamp) ≡ 32 = stamp-long x.stamp h.stamp in
    let p1 : length (mark_octets x.present) ≡ 4 = l0 in
    let p2 : length (mark_octets x.present ++ stamp_octets x.stamp) ≡ 36 = join (mark_octets x.present) (stamp_octets x.stamp) 4 32 p1 l1 in
    p2

pub optional_stamp-back : (x : OptionalStamp) → TypedOptionalStamp x → optional_stamp_in (optional_stamp_octets x) ≡ x
unfolding optional_stamp_in optional_stamp_octets
optional_stamp-back x h =
    let l0 : length (mark_octets x.present) ≡ 4 = mark-long x.present in
    let l1 : length (stamp_octets x.stamp) ≡ 32 = stamp-long x.stamp h.stamp in
    let p1 : length (mark_octets x.present) ≡ 4 = l0 in
    let p2 : length (mark_octets x.present ++ stamp_octets x.stamp) ≡ 36 = join (mark_octets x.present) (stamp_octets x.stamp) 4 32 p1 l1 in
    let e0 : part 0 4 (mark_octets x.present ++ stamp_octets x.stamp) ≡ mark_octets x.present = part-front (mark_octets x.present) (stamp_octets x.stamp) 4 0 4 p1 (omega arith) ∙ part-last [] (mark_octets x.present) 0 4 refl l0 in
    let e1 : part 4 32 (mark_octets x.present ++ stamp_octets x.stamp) ≡ stamp_octets x.stamp = part-last (mark_octets x.present) (stamp_octets x.stamp) 4 32 p1 l1 in
    λ i. record { present = (ap flag_in e0 ∙ mark-back x.present) i; stamp = (ap stamp_in e1 ∙ stamp-back x.stamp h.stamp) i }

pub identity-long : (x : Identity) → TypedIdentity x → length (identity_octets x) ≡ 16
unfolding identity_octets
identity-long x h =
    let l0 : length (word_octets x.fad) ≡ 4 = word-long x.fad in
    let l1 : length (word_octets x.number) ≡ 4 = word-long x.number in
    let l2 : length (optional_number_octets x.subtype) ≡ 8 = optional_number-long x.subtype h.subtype in
    let p1 : length (word_octets x.fad) ≡ 4 = l0 in
    let p2 : length (word_octets x.fad ++ word_octets x.number) ≡ 8 = join (word_octets x.fad) (word_octets x.number) 4 4 p1 l1 in
    let p3 : length (word_octets x.fad ++ word_octets x.number ++ optional_number_octets x.subtype) ≡ 16 = join (word_octets x.fad ++ word_octets x.number) (optional_number_octets x.subtype) 8 8 p2 l2 in
    p3

pub identity-back : (x : Identity) → TypedIdentity x → identity_in (identity_octets x) ≡ x
unfolding identity_in identity_octets
identity-back x h =
    let l0 : length (word_octets x.fad) ≡ 4 = word-long x.fad in
    let l1 : length (word_octets x.number) ≡ 4 = word-long x.number in
    let l2 : length (optional_number_octets x.subtype) ≡ 8 = optional_number-long x.subtype h.subtype in
    let p1 : length (word_octets x.fad) ≡ 4 = l0 in
    let p2 : length (word_octets x.fad ++ word_octets x.number) ≡ 8 = join (word_octets x.fad) (word_octets x.number) 4 4 p1 l1 in
    let p3 : length (word_octets x.fad ++ word_octets x.number ++ optional_number_octets x.subtype) ≡ 16 = join (word_octets x.fad ++ word_octets x.number) (optional_number_octets x.subtype) 8 8 p2 l2 in
    let e0 : part 0 4 (word_octets x.fad ++ word_octets x.number ++ optional_number_octets x.subtype) ≡ word_octets x.fad = part-front (word_octets x.fad ++ word_octets x.number) (optional_number_octets x.subtype) 8 0 4 p2 (omega arith) ∙ part-front (word_octets x.fad) (word_octets x.number) 4 0 4 p1 (omega arith) ∙ part-last [] (word_octets x.fad) 0 4 refl l0 in
    let e1 : part 4 4 (word_octets x.fad ++ word_octets x.number ++ optional_number_octets x.subtype) ≡ word_octets x.number = part-front (word_octets x.fad ++ word_octets x.number) (optional_number_octets x.subtype) 8 4 4 p2 (omega arith) ∙ part-last (word_octets x.fad) (word_octets x.number) 4 4 p1 l1 in
    let e2 : part 8 8 (word_octets x.fad ++ word_octets x.number ++ optional_number_octets x.subtype) ≡ optional_number_octets x.subtype = part-last (word_octets x.fad ++ word_octets x.number) (optional_number_octets x.subtype) 8 8 p2 l2 in
    λ i. record { fad = (ap word_in e0 ∙ word-back x.fad h.fad) i; number = (ap word_in e1 ∙ word-back x.number h.number) i; subtype = (ap optional_number_in e2 ∙ optional_number-back x.subtype h.subtype) i }

pub optional_identity-long : (x : OptionalIdentity) → TypedOptionalIdentity x → length (optional_identity_octets x) ≡ 20
unfolding optional_identity_octets
optional_identity-long x h =
    let l0 : length (mark_octets x.present) ≡ 4 = mark-long x.present in
    let l1 : length (identity_octets x.identity) ≡ 16 = identity-long x.identity h.identity in
    let p1 : length (mark_octets x.present) ≡ 4 = l0 in
    let p2 : length (mark_octets x.present ++ identity_octets x.identity) ≡ 20 = join (mark_octets x.present) (identity_octets x.identity) 4 16 p1 l1 in
    p2

pub optional_identity-back : (x : OptionalIdentity) → TypedOptionalIdentity x → optional_identity_in (optional_identity_octets x) ≡ x
unfolding optional_identity_in optional_identity_octets
optional_identity-back x h =
    let l0 : length (mark_octets x.present) ≡ 4 = mark-long x.present in
    let l1 : length (identity_octets x.identity) ≡ 16 = identity-long x.identity h.identity in
    let p1 : length (mark_octets x.present) ≡ 4 = l0 in
    let p2 : length (mark_octets x.present ++ identity_octets x.identity) ≡ 20 = join (mark_octets x.present) (identity_octets x.identity) 4 16 p1 l1 in
    let e0 : part 0 4 (mark_octets x.present ++ identity_octets x.identity) ≡ mark_octets x.present = part-front (mark_octets x.present) (identity_octets x.identity) 4 0 4 p1 (omega arith) ∙ part-last [] (mark_octets x.present) 0 4 refl l0 in
    let e1 : part 4 16 (mark_octets x.present ++ identity_octets x.identity) ≡ identity_octets x.identity = part-last (mark_octets x.present) (identity_octets x.identity) 4 16 p1 l1 in
    λ i. record { present = (ap flag_in e0 ∙ mark-back x.present) i; identity = (ap identity_in e1 ∙ identity-back x.identity h.identity) i }

pub format-long : (x : Format) → TypedFormat x → length (format_octets x) ≡ 104
unfolding format_octets
format-long x h =
    let l0 : length (word_octets x.umf) ≡ 4 = word-long x.umf in
    let l1 : length (optional_number_octets x.version) ≡ 8 = optional_number-long x.version h.version in
    let l2 : length (optional_identity_octets x.identity) ≡ 20 = optional_identity-long x.identity h.identity in
    let l3 : length (optional_text_octets x.file) ≡ 72 = optional_text-long x.file h.file in
    let p1 : length (word_octets x.umf) ≡ 4 = l0 in
    let p2 : length (word_octets x.umf ++ optional_number_octets x.version) ≡ 12 = join (word_octets x.umf) (optional_number_octets x.version) 4 8 p1 l1 in
    let p3 : length (word_octets x.umf ++ optional_number_octets x.version ++ optional_identity_octets x.identity) ≡ 32 = join (word_octets x.umf ++ optional_number_octets x.version) (optional_identity_octets x.identity) 12 20 p2 l2 in
    let p4 : length (word_octets x.umf ++ optional_number_octets x.version ++ optional_identity_octets x.identity ++ optional_text_octets x.file) ≡ 104 = join (word_octets x.umf ++ optional_number_octets x.version ++ optional_identity_octets x.identity) (optional_text_octets x.file) 32 72 p3 l3 in
    p4

pub format-back : (x : Format) → TypedFormat x → format_in (format_octets x) ≡ x
unfolding format_in format_octets
format-back x h =
    let l0 : length (word_octets x.umf) ≡ 4 = word-long x.umf in
    let l1 : length (optional_number_octets x.version) ≡ 8 = optional_number-long x.version h.version in
    let l2 : length (optional_identity_octets x.identity) ≡ 20 = optional_identity-long x.identity h.identity in
    let l3 : length (optional_text_octets x.file) ≡ 72 = optional_text-long x.file h.file in
    let p1 : length (word_octets x.umf) ≡ 4 = l0 in
    let p2 : length (word_octets x.umf ++ optional_number_octets x.version) ≡ 12 = join (word_octets x.umf) (optional_number_octets x.version) 4 8 p1 l1 in
    let p3 : length (word_octets x.umf ++ optional_number_octets x.version ++ optional_identity_octets x.identity) ≡ 32 = join (word_octets x.umf ++ optional_number_octets x.version) (optional_identity_octets x.identity) 12 20 p2 l2 in
    let p4 : length (word_octets x.umf ++ optional_number_octets x.version ++ optional_identity_octets x.identity ++ optional_text_octets x.file) ≡ 104 = join (word_octets x.umf ++ optional_number_octets x.version ++ optional_identity_octets x.identity) (optional_text_octets x.file) 32 72 p3 l3 in
    let e0 : part 0 4 (word_octets x.umf ++ optional_number_octets x.version ++ optional_identity_octets x.identity ++ optional_text_octets x.file) ≡ word_octets x.umf = part-front (word_octets x.umf ++ optional_number_octets x.version ++ optional_identity_octets x.identity) (optional_text_octets x.file) 32 0 4 p3 (omega arith) ∙ part-front (word_octets x.umf ++ optional_number_octets x.version) (optional_identity_octets x.identity) 12 0 4 p2 (omega arith) ∙ part-front (word_octets x.umf) (optional_number_octets x.version) 4 0 4 p1 (omega arith) ∙ part-last [] (word_octets x.umf) 0 4 refl l0 in
    let e1 : part 4 8 (word_octets x.umf ++ optional_number_octets x.version ++ optional_identity_octets x.identity ++ optional_text_octets x.file) ≡ optional_number_octets x.version = part-front (word_octets x.umf ++ optional_number_octets x.version ++ optional_identity_octets x.identity) (optional_text_octets x.file) 32 4 8 p3 (omega arith) ∙ part-front (word_octets x.umf ++ optional_number_octets x.version) (optional_identity_octets x.identity) 12 4 8 p2 (omega arith) ∙ part-last (word_octets x.umf) (optional_number_octets x.version) 4 8 p1 l1 in
    let e2 : part 12 20 (word_octets x.umf ++ optional_number_octets x.version ++ optional_identity_octets x.identity ++ optional_text_octets x.file) ≡ optional_identity_octets x.identity = part-front (word_octets x.umf ++ optional_number_octets x.version ++ optional_identity_octets x.identity) (optional_text_octets x.file) 32 12 20 p3 (omega arith) ∙ part-last (word_octets x.umf ++ optional_number_octets x.version) (optional_identity_octets x.identity) 12 20 p2 l2 in
    let e3 : part 32 72 (word_octets x.umf ++ optional_number_octets x.version ++ optional_identity_octets x.identity ++ optional_text_octets x.file) ≡ optional_text_octets x.file = part-last (word_octets x.umf ++ optional_number_octets x.version ++ optional_identity_octets x.identity) (optional_text_octets x.file) 32 72 p3 l3 in
    λ i. record { umf = (ap word_in e0 ∙ word-back x.umf h.umf) i; version = (ap optional_number_in e1 ∙ optional_number-back x.version h.version) i; identity = (ap optional_identity_in e2 ∙ optional_identity-back x.identity h.identity) i; file = (ap optional_text_in e3 ∙ optional_text-back x.file h.file) i }

pub codes-long : (x : Codes) → TypedCodes x → length (codes_octets x) ≡ 16
unfolding codes_octets
codes-long x h =
    let l0 : length (word_octets x.operation) ≡ 4 = word-long x.operation in
    let l1 : length (word_octets x.retransmit) ≡ 4 = word-long x.retransmit in
    let l2 : length (word_octets x.precedence) ≡ 4 = word-long x.precedence in
    let l3 : length (word_octets x.classification) ≡ 4 = word-long x.classification in
    let p1 : length (word_octets x.operation) ≡ 4 = l0 in
    let p2 : length (word_octets x.operation ++ word_octets x.retransmit) ≡ 8 = join (word_octets x.operation) (word_octets x.retransmit) 4 4 p1 l1 in
    let p3 : length (word_octets x.operation ++ word_octets x.retransmit ++ word_octets x.precedence) ≡ 12 = join (word_octets x.operation ++ word_octets x.retransmit) (word_octets x.precedence) 8 4 p2 l2 in
    let p4 : length (word_octets x.operation ++ word_octets x.retransmit ++ word_octets x.precedence ++ word_octets x.classification) ≡ 16 = join (word_octets x.operation ++ word_octets x.retransmit ++ word_octets x.precedence) (word_octets x.classification) 12 4 p3 l3 in
    p4

pub codes-back : (x : Codes) → TypedCodes x → codes_in (codes_octets x) ≡ x
unfolding codes_in codes_octets
codes-back x h =
    let l0 : length (word_octets x.operation) ≡ 4 = word-long x.operation in
    let l1 : length (word_octets x.retransmit) ≡ 4 = word-long x.retransmit in
    let l2 : length (word_octets x.precedence) ≡ 4 = word-long x.precedence in
    let l3 : length (word_octets x.classification) ≡ 4 = word-long x.classification in
    let p1 : length (word_octets x.operation) ≡ 4 = l0 in
    let p2 : length (word_octets x.operation ++ word_octets x.retransmit) ≡ 8 = join (word_octets x.operation) (word_octets x.retransmit) 4 4 p1 l1 in
    let p3 : length (word_octets x.operation ++ word_octets x.retransmit ++ word_octets x.precedence) ≡ 12 = join (word_octets x.operation ++ word_octets x.retransmit) (word_octets x.precedence) 8 4 p2 l2 in
    let p4 : length (word_octets x.operation ++ word_octets x.retransmit ++ word_octets x.precedence ++ word_octets x.classification) ≡ 16 = join (word_octets x.operation ++ word_octets x.retransmit ++ word_octets x.precedence) (word_octets x.classification) 12 4 p3 l3 in
    let e0 : part 0 4 (word_octets x.operation ++ word_octets x.retransmit ++ word_octets x.precedence ++ word_octets x.classification) ≡ word_octets x.operation = part-front (word_octets x.operation ++ word_octets x.retransmit ++ word_octets x.precedence) (word_octets x.classification) 12 0 4 p3 (omega arith) ∙ part-front (word_octets x.operation ++ word_octets x.retransmit) (word_octets x.precedence) 8 0 4 p2 (omega arith) ∙ part-front (word_octets x.operation) (word_octets x.retransmit) 4 0 4 p1 (omega arith) ∙ part-last [] (word_octets x.operation) 0 4 refl l0 in
    let e1 : part 4 4 (word_octets x.operation ++ word_octets x.retransmit ++ word_octets x.precedence ++ word_octets x.classification) ≡ word_octets x.retransmit = part-front (word_octets x.operation ++ word_octets x.retransmit ++ word_octets x.precedence) (word_octets x.classification) 12 4 4 p3 (omega arith) ∙ part-front (word_octets x.operation ++ word_octets x.retransmit) (word_octets x.precedence) 8 4 4 p2 (omega arith) ∙ part-last (word_octets x.operation) (word_octets x.retransmit) 4 4 p1 l1 in
    let e2 : part 8 4 (word_octets x.operation ++ word_octets x.retransmit ++ word_octets x.precedence ++ word_octets x.classification) ≡ word_octets x.precedence = part-front (word_octets x.operation ++ word_octets x.retransmit ++ word_octets x.precedence) (word_octets x.classification) 12 8 4 p3 (omega arith) ∙ part-last (word_octets x.operation ++ word_octets x.retransmit) (word_octets x.precedence) 8 4 p2 l2 in
    let e3 : part 12 4 (word_octets x.operation ++ word_octets x.retransmit ++ word_octets x.precedence ++ word_octets x.classification) ≡ word_octets x.classification = part-last (word_octets x.operation ++ word_octets x.retransmit ++ word_octets x.precedence) (word_octets x.classification) 12 4 p3 l3 in
    λ i. record { operation = (ap word_in e0 ∙ word-back x.operation h.operation) i; retransmit = (ap word_in e1 ∙ word-back x.retransmit h.retransmit) i; precedence = (ap word_in e2 ∙ word-back x.precedence h.precedence) i; classification = (ap word_in e3 ∙ word-back x.classification h.classification) i }

pub handling-long : (x : Handling) → TypedHandling x → length (handling_octets x) ≡ 96
unfolding handling_octets
handling-long x h =
    let l0 : length (optional_number_octets x.size) ≡ 8 = optional_number-long x.size h.size in
    let l1 : length (codes_octets x.codes) ≡ 16 = codes-long x.codes h.codes in
    let l2 : length (optional_text_octets x.marking) ≡ 72 = optional_text-long x.marking h.marking in
    let p1 : length (optional_number_octets x.size) ≡ 8 = l0 in
    let p2 : length (optional_number_octets x.size ++ codes_octets x.codes) ≡ 24 = join (optional_number_octets x.size) (codes_octets x.codes) 8 16 p1 l1 in
    let p3 : length (optional_number_octets x.size ++ codes_octets x.codes ++ optional_text_octets x.marking) ≡ 96 = join (optional_number_octets x.size ++ codes_octets x.codes) (optional_text_octets x.marking) 24 72 p2 l2 in
    p3

pub handling-back : (x : Handling) → TypedHandling x → handling_in (handling_octets x) ≡ x
unfolding handling_in handling_octets
handling-back x h =
    let l0 : length (optional_number_octets x.size) ≡ 8 = optional_number-long x.size h.size in
    let l1 : length (codes_octets x.codes) ≡ 16 = codes-long x.codes h.codes in
    let l2 : length (optional_text_octets x.marking) ≡ 72 = optional_text-long x.marking h.marking in
    let p1 : length (optional_number_octets x.size) ≡ 8 = l0 in
    let p2 : length (optional_number_octets x.size ++ codes_octets x.codes) ≡ 24 = join (optional_number_octets x.size) (codes_octets x.codes) 8 16 p1 l1 in
    let p3 : length (optional_number_octets x.size ++ codes_octets x.codes ++ optional_text_octets x.marking) ≡ 96 = join (optional_number_octets x.size ++ codes_octets x.codes) (optional_text_octets x.marking) 24 72 p2 l2 in
    let e0 : part 0 8 (optional_number_octets x.size ++ codes_octets x.codes ++ optional_text_octets x.marking) ≡ optional_number_octets x.size = part-front (optional_number_octets x.size ++ codes_octets x.codes) (optional_text_octets x.marking) 24 0 8 p2 (omega arith) ∙ part-front (optional_number_octets x.size) (codes_octets x.codes) 8 0 8 p1 (omega arith) ∙ part-last [] (optional_number_octets x.size) 0 8 refl l0 in
    let e1 : part 8 16 (optional_number_octets x.size ++ codes_octets x.codes ++ optional_text_octets x.marking) ≡ codes_octets x.codes = part-front (optional_number_octets x.size ++ codes_octets x.codes) (optional_text_octets x.marking) 24 8 16 p2 (omega arith) ∙ part-last (optional_number_octets x.size) (codes_octets x.codes) 8 16 p1 l1 in
    let e2 : part 24 72 (optional_number_octets x.size ++ codes_octets x.codes ++ optional_text_octets x.marking) ≡ optional_text_octets x.marking = part-last (optional_number_octets x.size ++ codes_octets x.codes) (optional_text_octets x.marking) 24 72 p2 l2 in
    λ i. record { size = (ap optional_number_in e0 ∙ optional_number-back x.size h.size) i; codes = (ap codes_in e1 ∙ codes-back x.codes h.codes) i; marking = (ap optional_text_in e2 ∙ optional_text-back x.marking h.marking) i }

pub requests-long : (x : Requests) → length (requests_octets x) ≡ 3
unfolding requests_octets
requests-long x =
    let l0 : length (flag_octets x.machine) ≡ 1 = flag-long x.machine in
    let l1 : length (flag_octets x.acknowledge) ≡ 1 = flag-long x.acknowledge in
    let l2 : length (flag_octets x.reply) ≡ 1 = flag-long x.reply in
    let p1 : length (flag_octets x.machine) ≡ 1 = l0 in
    let p2 : length (flag_octets x.machine ++ flag_octets x.acknowledge) ≡ 2 = join (flag_octets x.machine) (flag_octets x.acknowledge) 1 1 p1 l1 in
    let p3 : length (flag_octets x.machine ++ flag_octets x.acknowledge ++ flag_octets x.reply) ≡ 3 = join (flag_octets x.machine ++ flag_octets x.acknowledge) (flag_octets x.reply) 2 1 p2 l2 in
    p3

pub requests-back : (x : Requests) → requests_in (requests_octets x) ≡ x
unfolding requests_in requests_octets
requests-back x =
    let l0 : length (flag_octets x.machine) ≡ 1 = flag-long x.machine in
    let l1 : length (flag_octets x.acknowledge) ≡ 1 = flag-long x.acknowledge in
    let l2 : length (flag_octets x.reply) ≡ 1 = flag-long x.reply in
    let p1 : length (flag_octets x.machine) ≡ 1 = l0 in
    let p2 : length (flag_octets x.machine ++ flag_octets x.acknowledge) ≡ 2 = join (flag_octets x.machine) (flag_octets x.acknowledge) 1 1 p1 l1 in
    let p3 : length (flag_octets x.machine ++ flag_octets x.acknowledge ++ flag_octets x.reply) ≡ 3 = join (flag_octets x.machine ++ flag_octets x.acknowledge) (flag_octets x.reply) 2 1 p2 l2 in
    let e0 : part 0 1 (flag_octets x.machine ++ flag_octets x.acknowledge ++ flag_octets x.reply) ≡ flag_octets x.machine = part-front (flag_octets x.machine ++ flag_octets x.acknowledge) (flag_octets x.reply) 2 0 1 p2 (omega arith) ∙ part-front (flag_octets x.machine) (flag_octets x.acknowledge) 1 0 1 p1 (omega arith) ∙ part-last [] (flag_octets x.machine) 0 1 refl l0 in
    let e1 : part 1 1 (flag_octets x.machine ++ flag_octets x.acknowledge ++ flag_octets x.reply) ≡ flag_octets x.acknowledge = part-front (flag_octets x.machine ++ flag_octets x.acknowledge) (flag_octets x.reply) 2 1 1 p2 (omega arith) ∙ part-last (flag_octets x.machine) (flag_octets x.acknowledge) 1 1 p1 l1 in
    let e2 : part 2 1 (flag_octets x.machine ++ flag_octets x.acknowledge ++ flag_octets x.reply) ≡ flag_octets x.reply = part-last (flag_octets x.machine ++ flag_octets x.acknowledge) (flag_octets x.reply) 2 1 p2 l2 in
    λ i. record { machine = (ap flag_in e0 ∙ flag-back x.machine) i; acknowledge = (ap flag_in e1 ∙ flag-back x.acknowledge) i; reply = (ap flag_in e2 ∙ flag-back x.reply) i }

pub optional_requests-long : (x : OptionalRequests) → length (optional_requests_octets x) ≡ 4
unfolding optional_requests_octets
optional_requests-long x =
    let l0 : length (flag_octets x.present) ≡ 1 = flag-long x.present in
    let l1 : length (requests_octets x.requests) ≡ 3 = requests-long x.requests in
    let p1 : length (flag_octets x.present) ≡ 1 = l0 in
    let p2 : length (flag_octets x.present ++ requests_octets x.requests) ≡ 4 = join (flag_octets x.present) (requests_octets x.requests) 1 3 p1 l1 in
    p2

pub optional_requests-back : (x : OptionalRequests) → optional_requests_in (optional_requests_octets x) ≡ x
unfolding optional_requests_in optional_requests_octets
optional_requests-back x =
    let l0 : length (flag_octets x.present) ≡ 1 = flag-long x.present in
    let l1 : length (requests_octets x.requests) ≡ 3 = requests-long x.requests in
    let p1 : length (flag_octets x.present) ≡ 1 = l0 in
    let p2 : length (flag_octets x.present ++ requests_octets x.requests) ≡ 4 = join (flag_octets x.present) (requests_octets x.requests) 1 3 p1 l1 in
    let e0 : part 0 1 (flag_octets x.present ++ requests_octets x.requests) ≡ flag_octets x.present = part-front (flag_octets x.present) (requests_octets x.requests) 1 0 1 p1 (omega arith) ∙ part-last [] (flag_octets x.present) 0 1 refl l0 in
    let e1 : part 1 3 (flag_octets x.present ++ requests_octets x.requests) ≡ requests_octets x.requests = part-last (flag_octets x.present) (requests_octets x.requests) 1 3 p1 l1 in
    λ i. record { present = (ap flag_in e0 ∙ flag-back x.present) i; requests = (ap requests_in e1 ∙ requests-back x.requests) i }

pub times-long : (x : Times) → TypedTimes x → length (times_octets x) ≡ 68
unfolding times_octets
times-long x h =
    let l0 : length (optional_stamp_octets x.origin) ≡ 36 = optional_stamp-long x.origin h.origin in
    let l1 : length (optional_dtg_octets x.perish) ≡ 28 = optional_dtg-long x.perish h.perish in
    let l2 : length (optional_requests_octets x.requests) ≡ 4 = optional_requests-long x.requests in
    let p1 : length (optional_stamp_octets x.origin) ≡ 36 = l0 in
    let p2 : length (optional_stamp_octets x.origin ++ optional_dtg_octets x.perish) ≡ 64 = join (optional_stamp_octets x.origin) (optional_dtg_octets x.perish) 36 28 p1 l1 in
    let p3 : length (optional_stamp_octets x.origin ++ optional_dtg_octets x.perish ++ optional_requests_octets x.requests) ≡ 68 = join (optional_stamp_octets x.origin ++ optional_dtg_octets x.perish) (optional_requests_octets x.requests) 64 4 p2 l2 in
    p3

pub times-back : (x : Times) → TypedTimes x → times_in (times_octets x) ≡ x
unfolding times_in times_octets
times-back x h =
    let l0 : length (optional_stamp_octets x.origin) ≡ 36 = optional_stamp-long x.origin h.origin in
    let l1 : length (optional_dtg_octets x.perish) ≡ 28 = optional_dtg-long x.perish h.perish in
    let l2 : length (optional_requests_octets x.requests) ≡ 4 = optional_requests-long x.requests in
    let p1 : length (optional_stamp_octets x.origin) ≡ 36 = l0 in
    let p2 : length (optional_stamp_octets x.origin ++ optional_dtg_octets x.perish) ≡ 64 = join (optional_stamp_octets x.origin) (optional_dtg_octets x.perish) 36 28 p1 l1 in
    let p3 : length (optional_stamp_octets x.origin ++ optional_dtg_octets x.perish ++ optional_requests_octets x.requests) ≡ 68 = join (optional_stamp_octets x.origin ++ optional_dtg_octets x.perish) (optional_requests_octets x.requests) 64 4 p2 l2 in
    let e0 : part 0 36 (optional_stamp_octets x.origin ++ optional_dtg_octets x.perish ++ optional_requests_octets x.requests) ≡ optional_stamp_octets x.origin = part-front (optional_stamp_octets x.origin ++ optional_dtg_octets x.perish) (optional_requests_octets x.requests) 64 0 36 p2 (omega arith) ∙ part-front (optional_stamp_octets x.origin) (optional_dtg_octets x.perish) 36 0 36 p1 (omega arith) ∙ part-last [] (optional_stamp_octets x.origin) 0 36 refl l0 in
    let e1 : part 36 28 (optional_stamp_octets x.origin ++ optional_dtg_octets x.perish ++ optional_requests_octets x.requests) ≡ optional_dtg_octets x.perish = part-front (optional_stamp_octets x.origin ++ optional_dtg_octets x.perish) (optional_requests_octets x.requests) 64 36 28 p2 (omega arith) ∙ part-last (optional_stamp_octets x.origin) (optional_dtg_octets x.perish) 36 28 p1 l1 in
    let e2 : part 64 4 (optional_stamp_octets x.origin ++ optional_dtg_octets x.perish ++ optional_requests_octets x.requests) ≡ optional_requests_octets x.requests = part-last (optional_stamp_octets x.origin ++ optional_dtg_octets x.perish) (optional_requests_octets x.requests) 64 4 p2 l2 in
    λ i. record { origin = (ap optional_stamp_in e0 ∙ optional_stamp-back x.origin h.origin) i; perish = (ap optional_dtg_in e1 ∙ optional_dtg-back x.perish h.perish) i; requests = (ap optional_requests_in e2 ∙ optional_requests-back x.requests) i }

pub compliance-long : (x : Compliance) → TypedCompliance x → length (compliance_octets x) ≡ 20
unfolding compliance_octets
compliance-long x h =
    let l0 : length (word_octets x.code) ≡ 4 = word-long x.code in
    let l1 : length (optional_number_octets x.cantco) ≡ 8 = optional_number-long x.cantco h.cantco in
    let l2 : length (optional_number_octets x.cantpro) ≡ 8 = optional_number-long x.cantpro h.cantpro in
    let p1 : length (word_octets x.code) ≡ 4 = l0 in
    let p2 : length (word_octets x.code ++ optional_number_octets x.cantco) ≡ 12 = join (word_octets x.code) (optional_number_octets x.cantco) 4 8 p1 l1 in
    let p3 : length (word_octets x.code ++ optional_number_octets x.cantco ++ optional_number_octets x.cantpro) ≡ 20 = join (word_octets x.code ++ optional_number_octets x.cantco) (optional_number_octets x.cantpro) 12 8 p2 l2 in
    p3

pub compliance-back : (x : Compliance) → TypedCompliance x → compliance_in (compliance_octets x) ≡ x
unfolding compliance_in compliance_octets
compliance-back x h =
    let l0 : length (word_octets x.code) ≡ 4 = word-long x.code in
    let l1 : length (optional_number_octets x.cantco) ≡ 8 = optional_number-long x.cantco h.cantco in
    let l2 : length (optional_number_octets x.cantpro) ≡ 8 = optional_number-long x.cantpro h.cantpro in
    let p1 : length (word_octets x.code) ≡ 4 = l0 in
    let p2 : length (word_octets x.code ++ optional_number_octets x.cantco) ≡ 12 = join (word_octets x.code) (optional_number_octets x.cantco) 4 8 p1 l1 in
    let p3 : length (word_octets x.code ++ optional_number_octets x.cantco ++ optional_number_octets x.cantpro) ≡ 20 = join (word_octets x.code ++ optional_number_octets x.cantco) (optional_number_octets x.cantpro) 12 8 p2 l2 in
    let e0 : part 0 4 (word_octets x.code ++ optional_number_octets x.cantco ++ optional_number_octets x.cantpro) ≡ word_octets x.code = part-front (word_octets x.code ++ optional_number_octets x.cantco) (optional_number_octets x.cantpro) 12 0 4 p2 (omega arith) ∙ part-front (word_octets x.code) (optional_number_octets x.cantco) 4 0 4 p1 (omega arith) ∙ part-last [] (word_octets x.code) 0 4 refl l0 in
    let e1 : part 4 8 (word_octets x.code ++ optional_number_octets x.cantco ++ optional_number_octets x.cantpro) ≡ optional_number_octets x.cantco = part-front (word_octets x.code ++ optional_number_octets x.cantco) (optional_number_octets x.cantpro) 12 4 8 p2 (omega arith) ∙ part-last (word_octets x.code) (optional_number_octets x.cantco) 4 8 p1 l1 in
    let e2 : part 12 8 (word_octets x.code ++ optional_number_octets x.cantco ++ optional_number_octets x.cantpro) ≡ optional_number_octets x.cantpro = part-last (word_octets x.code ++ optional_number_octets x.cantco) (optional_number_octets x.cantpro) 12 8 p2 l2 in
    λ i. record { code = (ap word_in e0 ∙ word-back x.code h.code) i; cantco = (ap optional_number_in e1 ∙ optional_number-back x.cantco h.cantco) i; cantpro = (ap optional_number_in e2 ∙ optional_number-back x.cantpro h.cantpro) i }

pub response-long : (x : Response) → TypedResponse x → length (response_octets x) ≡ 124
unfolding response_octets
response-long x h =
    let l0 : length (stamp_octets x.stamp) ≡ 32 = stamp-long x.stamp h.stamp in
    let l1 : length (compliance_octets x.compliance) ≡ 20 = compliance-long x.compliance h.compliance in
    let l2 : length (optional_text_octets x.amplification) ≡ 72 = optional_text-long x.amplification h.amplification in
    let p1 : length (stamp_octets x.stamp) ≡ 32 = l0 in
    let p2 : length (stamp_octets x.stamp ++ compliance_octets x.compliance) ≡ 52 = join (stamp_octets x.stamp) (compliance_octets x.compliance) 32 20 p1 l1 in
    let p3 : length (stamp_octets x.stamp ++ compliance_octets x.compliance ++ optional_text_octets x.amplification) ≡ 124 = join (stamp_octets x.stamp ++ compliance_octets x.compliance) (optional_text_octets x.amplification) 52 72 p2 l2 in
    p3

pub response-back : (x : Response) → TypedResponse x → response_in (response_octets x) ≡ x
unfolding response_in response_octets
response-back x h =
    let l0 : length (stamp_octets x.stamp) ≡ 32 = stamp-long x.stamp h.stamp in
    let l1 : length (compliance_octets x.compliance) ≡ 20 = compliance-long x.compliance h.compliance in
    let l2 : length (optional_text_octets x.amplification) ≡ 72 = optional_text-long x.amplification h.amplification in
    let p1 : length (stamp_octets x.stamp) ≡ 32 = l0 in
    let p2 : length (stamp_octets x.stamp ++ compliance_octets x.compliance) ≡ 52 = join (stamp_octets x.stamp) (compliance_octets x.compliance) 32 20 p1 l1 in
    let p3 : length (stamp_octets x.stamp ++ compliance_octets x.compliance ++ optional_text_octets x.amplification) ≡ 124 = join (stamp_octets x.stamp ++ compliance_octets x.compliance) (optional_text_octets x.amplification) 52 72 p2 l2 in
    let e0 : part 0 32 (stamp_octets x.stamp ++ compliance_octets x.compliance ++ optional_text_octets x.amplification) ≡ stamp_octets x.stamp = part-front (stamp_octets x.stamp ++ compliance_octets x.compliance) (optional_text_octets x.amplification) 52 0 32 p2 (omega arith) ∙ part-front (stamp_octets x.stamp) (compliance_octets x.compliance) 32 0 32 p1 (omega arith) ∙ part-last [] (stamp_octets x.stamp) 0 32 refl l0 in
    let e1 : part 32 20 (stamp_octets x.stamp ++ compliance_octets x.compliance ++ optional_text_octets x.amplification) ≡ compliance_octets x.compliance = part-front (stamp_octets x.stamp ++ compliance_octets x.compliance) (optional_text_octets x.amplification) 52 32 20 p2 (omega arith) ∙ part-last (stamp_octets x.stamp) (compliance_octets x.compliance) 32 20 p1 l1 in
    let e2 : part 52 72 (stamp_octets x.stamp ++ compliance_octets x.compliance ++ optional_text_octets x.amplification) ≡ optional_text_octets x.amplification = part-last (stamp_octets x.stamp ++ compliance_octets x.compliance) (optional_text_octets x.amplification) 52 72 p2 l2 in
    λ i. record { stamp = (ap stamp_in e0 ∙ stamp-back x.stamp h.stamp) i; compliance = (ap compliance_in e1 ∙ compliance-back x.compliance h.compliance) i; amplification = (ap optional_text_in e2 ∙ optional_text-back x.amplification h.amplification) i }

pub optional_response-long : (x : OptionalResponse) → TypedOptionalResponse x → length (optional_response_octets x) ≡ 128
unfolding optional_response_octets
optional_response-long x h =
    let l0 : length (mark_octets x.present) ≡ 4 = mark-long x.present in
    let l1 : length (response_octets x.response) ≡ 124 = response-long x.response h.response in
    let p1 : length (mark_octets x.present) ≡ 4 = l0 in
    let p2 : length (mark_octets x.present ++ response_octets x.response) ≡ 128 = join (mark_octets x.present) (response_octets x.response) 4 124 p1 l1 in
    p2

pub optional_response-back : (x : OptionalResponse) → TypedOptionalResponse x → optional_response_in (optional_response_octets x) ≡ x
unfolding optional_response_in optional_response_octets
optional_response-back x h =
    let l0 : length (mark_octets x.present) ≡ 4 = mark-long x.present in
    let l1 : length (response_octets x.response) ≡ 124 = response-long x.response h.response in
    let p1 : length (mark_octets x.present) ≡ 4 = l0 in
    let p2 : length (mark_octets x.present ++ response_octets x.response) ≡ 128 = join (mark_octets x.present) (response_octets x.response) 4 124 p1 l1 in
    let e0 : part 0 4 (mark_octets x.present ++ response_octets x.response) ≡ mark_octets x.present = part-front (mark_octets x.present) (response_octets x.response) 4 0 4 p1 (omega arith) ∙ part-last [] (mark_octets x.present) 0 4 refl l0 in
    let e1 : part 4 124 (mark_octets x.present ++ response_octets x.response) ≡ response_octets x.response = part-last (mark_octets x.present) (response_octets x.response) 4 124 p1 l1 in
    λ i. record { present = (ap flag_in e0 ∙ mark-back x.present) i; response = (ap response_in e1 ∙ response-back x.response h.response) i }

pub reference-long : (x : Reference) → TypedReference x → length (reference_octets x) ≡ 112
unfolding reference_octets
reference-long x h =
    let l0 : length (address_octets x.address) ≡ 80 = address-long x.address h.address in
    let l1 : length (stamp_octets x.stamp) ≡ 32 = stamp-long x.stamp h.stamp in
    let p1 : length (address_octets x.address) ≡ 80 = l0 in
    let p2 : length (address_octets x.address ++ stamp_octets x.stamp) ≡ 112 = join (address_octets x.address) (stamp_octets x.stamp) 80 32 p1 l1 in
    p2

pub reference-back : (x : Reference) → TypedReference x → reference_in (reference_octets x) ≡ x
unfolding reference_in reference_octets
reference-back x h =
    let l0 : length (address_octets x.address) ≡ 80 = address-long x.address h.address in
    let l1 : length (stamp_octets x.stamp) ≡ 32 = stamp-long x.stamp h.stamp in
    let p1 : length (address_octets x.address) ≡ 80 = l0 in
    let p2 : length (address_octets x.address ++ stamp_octets x.stamp) ≡ 112 = join (address_octets x.address) (stamp_octets x.stamp) 80 32 p1 l1 in
    let e0 : part 0 80 (address_octets x.address ++ stamp_octets x.stamp) ≡ address_octets x.address = part-front (address_octets x.address) (stamp_octets x.stamp) 80 0 80 p1 (omega arith) ∙ part-last [] (address_octets x.address) 0 80 refl l0 in
    let e1 : part 80 32 (address_octets x.address ++ stamp_octets x.stamp) ≡ stamp_octets x.stamp = part-last (address_octets x.address) (stamp_octets x.stamp) 80 32 p1 l1 in
    λ i. record { address = (ap address_in e0 ∙ address-back x.address h.address) i; stamp = (ap stamp_in e1 ∙ stamp-back x.stamp h.stamp) i }

pub references-long : (x : References) → TypedReferences x → length (references_octets x) ≡ 452
unfolding references_octets
references-long x h =
    let l0 : length (many_octets reference_octets x.list) ≡ 448 = many-long reference_in reference_octets TypedReference 112 reference-long reference-back x.list 4 h.list.0 h.list.1 in
    let l1 : length (word_octets x.count) ≡ 4 = word-long x.count in
    let p1 : length (many_octets reference_octets x.list) ≡ 448 = l0 in
    let p2 : length (many_octets reference_octets x.list ++ word_octets x.count) ≡ 452 = join (many_octets reference_octets x.list) (word_octets x.count) 448 4 p1 l1 in
    p2

pub references-back : (x : References) → TypedReferences x → references_in (references_octets x) ≡ x
unfolding references_in references_octets
references-back x h =
    let l0 : length (many_octets reference_octets x.list) ≡ 448 = many-long reference_in reference_octets TypedReference 112 reference-long reference-back x.list 4 h.list.0 h.list.1 in
    let l1 : length (word_octets x.count) ≡ 4 = word-long x.count in
    let p1 : length (many_octets reference_octets x.list) ≡ 448 = l0 in
    let p2 : length (many_octets reference_octets x.list ++ word_octets x.count) ≡ 452 = join (many_octets reference_octets x.list) (word_octets x.count) 448 4 p1 l1 in
    let e0 : part 0 448 (many_octets reference_octets x.list ++ word_octets x.count) ≡ many_octets reference_octets x.list = part-front (many_octets reference_octets x.list) (word_octets x.count) 448 0 448 p1 (omega arith) ∙ part-last [] (many_octets reference_octets x.list) 0 448 refl l0 in
    let e1 : part 448 4 (many_octets reference_octets x.list ++ word_octets x.count) ≡ word_octets x.count = part-last (many_octets reference_octets x.list) (word_octets x.count) 448 4 p1 l1 in
    λ i. record { list = (ap (many reference_in 112 4) e0 ∙ many-back reference_in reference_octets TypedReference 112 reference-long reference-back x.list 4 h.list.0 h.list.1) i; count = (ap word_in e1 ∙ word-back x.count h.count) i }

pub optional_references-long : (x : OptionalReferences) → TypedOptionalReferences x → length (optional_references_octets x) ≡ 456
unfolding optional_references_octets
optional_references-long x h =
    let l0 : length (mark_octets x.present) ≡ 4 = mark-long x.present in
    let l1 : length (references_octets x.references) ≡ 452 = references-long x.references h.references in
    let p1 : length (mark_octets x.present) ≡ 4 = l0 in
    let p2 : length (mark_octets x.present ++ references_octets x.references) ≡ 456 = join (mark_octets x.present) (references_octets x.references) 4 452 p1 l1 in
    p2

pub optional_references-back : (x : OptionalReferences) → TypedOptionalReferences x → optional_references_in (optional_references_octets x) ≡ x
unfolding optional_references_in optional_references_octets
optional_references-back x h =
    let l0 : length (mark_octets x.present) ≡ 4 = mark-long x.present in
    let l1 : length (references_octets x.references) ≡ 452 = references-long x.references h.references in
    let p1 : length (mark_octets x.present) ≡ 4 = l0 in
    let p2 : length (mark_octets x.present ++ references_octets x.references) ≡ 456 = join (mark_octets x.present) (references_octets x.references) 4 452 p1 l1 in
    let e0 : part 0 4 (mark_octets x.present ++ references_octets x.references) ≡ mark_octets x.present = part-front (mark_octets x.present) (references_octets x.references) 4 0 4 p1 (omega arith) ∙ part-last [] (mark_octets x.present) 0 4 refl l0 in
    let e1 : part 4 452 (mark_octets x.present ++ references_octets x.references) ≡ references_octets x.references = part-last (mark_octets x.present) (references_octets x.references) 4 452 p1 l1 in
    λ i. record { present = (ap flag_in e0 ∙ mark-back x.present) i; references = (ap references_in e1 ∙ references-back x.references h.references) i }

pub block-long : (x : Block) → TypedBlock x → length (block_octets x) ≡ 852
unfolding block_octets
block-long x h =
    let l0 : length (format_octets x.format) ≡ 104 = format-long x.format h.format in
    let l1 : length (handling_octets x.handling) ≡ 96 = handling-long x.handling h.handling in
    let l2 : length (times_octets x.times) ≡ 68 = times-long x.times h.times in
    let l3 : length (optional_response_octets x.response) ≡ 128 = optional_response-long x.response h.response in
    let l4 : length (optional_references_octets x.references) ≡ 456 = optional_references-long x.references h.references in
    let p1 : length (format_octets x.format) ≡ 104 = l0 in
    let p2 : length (format_octets x.format ++ handling_octets x.handling) ≡ 200 = join (format_octets x.format) (handling_octets x.handling) 104 96 p1 l1 in
    let p3 : length (format_octets x.format ++ handling_octets x.handling ++ times_octets x.times) ≡ 268 = join (format_octets x.format ++ handling_octets x.handling) (times_octets x.times) 200 68 p2 l2 in
    let p4 : length (format_octets x.format ++ handling_octets x.handling ++ times_octets x.times ++ optional_response_octets x.response) ≡ 396 = join (format_octets x.format ++ handling_octets x.handling ++ times_octets x.times) (optional_response_octets x.response) 268 128 p3 l3 in
    let p5 : length (format_octets x.format ++ handling_octets x.handling ++ times_octets x.times ++ optional_response_octets x.response ++ optional_references_octets x.references) ≡ 852 = join (format_octets x.format ++ handling_octets x.handling ++ times_octets x.times ++ optional_response_octets x.response) (optional_references_octets x.references) 396 456 p4 l4 in
    p5

pub block-back : (x : Block) → TypedBlock x → block_in (block_octets x) ≡ x
unfolding block_in block_octets
block-back x h =
    let l0 : length (format_octets x.format) ≡ 104 = format-long x.format h.format in
    let l1 : length (handling_octets x.handling) ≡ 96 = handling-long x.handling h.handling in
    let l2 : length (times_octets x.times) ≡ 68 = times-long x.times h.times in
    let l3 : length (optional_response_octets x.response) ≡ 128 = optional_response-long x.response h.response in
    let l4 : length (optional_references_octets x.references) ≡ 456 = optional_references-long x.references h.references in
    let p1 : length (format_octets x.format) ≡ 104 = l0 in
    let p2 : length (format_octets x.format ++ handling_octets x.handling) ≡ 200 = join (format_octets x.format) (handling_octets x.handling) 104 96 p1 l1 in
    let p3 : length (format_octets x.format ++ handling_octets x.handling ++ times_octets x.times) ≡ 268 = join (format_octets x.format ++ handling_octets x.handling) (times_octets x.times) 200 68 p2 l2 in
    let p4 : length (format_octets x.format ++ handling_octets x.handling ++ times_octets x.times ++ optional_response_octets x.response) ≡ 396 = join (format_octets x.format ++ handling_octets x.handling ++ times_octets x.times) (optional_response_octets x.response) 268 128 p3 l3 in
    let p5 : length (format_octets x.format ++ handling_octets x.handling ++ times_octets x.times ++ optional_response_octets x.response ++ optional_references_octets x.references) ≡ 852 = join (format_octets x.format ++ handling_octets x.handling ++ times_octets x.times ++ optional_response_octets x.response) (optional_references_octets x.references) 396 456 p4 l4 in
    let e0 : part 0 104 (format_octets x.format ++ handling_octets x.handling ++ times_octets x.times ++ optional_response_octets x.response ++ optional_references_octets x.references) ≡ format_octets x.format = part-front (format_octets x.format ++ handling_octets x.handling ++ times_octets x.times ++ optional_response_octets x.response) (optional_references_octets x.references) 396 0 104 p4 (omega arith) ∙ part-front (format_octets x.format ++ handling_octets x.handling ++ times_octets x.times) (optional_response_octets x.response) 268 0 104 p3 (omega arith) ∙ part-front (format_octets x.format ++ handling_octets x.handling) (times_octets x.times) 200 0 104 p2 (omega arith) ∙ part-front (format_octets x.format) (handling_octets x.handling) 104 0 104 p1 (omega arith) ∙ part-last [] (format_octets x.format) 0 104 refl l0 in
    let e1 : part 104 96 (format_octets x.format ++ handling_octets x.handling ++ times_octets x.times ++ optional_response_octets x.response ++ optional_references_octets x.references) ≡ handling_octets x.handling = part-front (format_octets x.format ++ handling_octets x.handling ++ times_octets x.times ++ optional_response_octets x.response) (optional_references_octets x.references) 396 104 96 p4 (omega arith) ∙ part-front (format_octets x.format ++ handling_octets x.handling ++ times_octets x.times) (optional_response_octets x.response) 268 104 96 p3 (omega arith) ∙ part-front (format_octets x.format ++ handling_octets x.handling) (times_octets x.times) 200 104 96 p2 (omega arith) ∙ part-last (format_octets x.format) (handling_octets x.handling) 104 96 p1 l1 in
    let e2 : part 200 68 (format_octets x.format ++ handling_octets x.handling ++ times_octets x.times ++ optional_response_octets x.response ++ optional_references_octets x.references) ≡ times_octets x.times = part-front (format_octets x.format ++ handling_octets x.handling ++ times_octets x.times ++ optional_response_octets x.response) (optional_references_octets x.references) 396 200 68 p4 (omega arith) ∙ part-front (format_octets x.format ++ handling_octets x.handling ++ times_octets x.times) (optional_response_octets x.response) 268 200 68 p3 (omega arith) ∙ part-last (format_octets x.format ++ handling_octets x.handling) (times_octets x.times) 200 68 p2 l2 in
    let e3 : part 268 128 (format_octets x.format ++ handling_octets x.handling ++ times_octets x.times ++ optional_response_octets x.response ++ optional_references_octets x.references) ≡ optional_response_octets x.response = part-front (format_octets x.format ++ handling_octets x.handling ++ times_octets x.times ++ optional_response_octets x.response) (optional_references_octets x.references) 396 268 128 p4 (omega arith) ∙ part-last (format_octets x.format ++ handling_octets x.handling ++ times_octets x.times) (optional_response_octets x.response) 268 128 p3 l3 in
    let e4 : part 396 456 (format_octets x.format ++ handling_octets x.handling ++ times_octets x.times ++ optional_response_octets x.response ++ optional_references_octets x.references) ≡ optional_references_octets x.references = part-last (format_octets x.format ++ handling_octets x.handling ++ times_octets x.times ++ optional_response_octets x.response) (optional_references_octets x.references) 396 456 p4 l4 in
    λ i. record { format = (ap format_in e0 ∙ format-back x.format h.format) i; handling = (ap handling_in e1 ∙ handling-back x.handling h.handling) i; times = (ap times_in e2 ∙ times-back x.times h.times) i; response = (ap optional_response_in e3 ∙ optional_response-back x.response h.response) i; references = (ap optional_references_in e4 ∙ optional_references-back x.references h.references) i }

pub blocks-long : (x : Blocks) → TypedBlocks x → length (blocks_octets x) ≡ 13636
unfolding blocks_octets
blocks-long x h =
    let l0 : length (many_octets block_octets x.list) ≡ 13632 = many-long block_in block_octets TypedBlock 852 block-long block-back x.list 16 h.list.0 h.list.1 in
    let l1 : length (word_octets x.count) ≡ 4 = word-long x.count in
    let p1 : length (many_octets block_octets x.list) ≡ 13632 = l0 in
    let p2 : length (many_octets block_octets x.list ++ word_octets x.count) ≡ 13636 = join (many_octets block_octets x.list) (word_octets x.count) 13632 4 p1 l1 in
    p2

pub blocks-back : (x : Blocks) → TypedBlocks x → blocks_in (blocks_octets x) ≡ x
unfolding blocks_in blocks_octets
blocks-back x h =
    let l0 : length (many_octets block_octets x.list) ≡ 13632 = many-long block_in block_octets TypedBlock 852 block-long block-back x.list 16 h.list.0 h.list.1 in
    let l1 : length (word_octets x.count) ≡ 4 = word-long x.count in
    let p1 : length (many_octets block_octets x.list) ≡ 13632 = l0 in
    let p2 : length (many_octets block_octets x.list ++ word_octets x.count) ≡ 13636 = join (many_octets block_octets x.list) (word_octets x.count) 13632 4 p1 l1 in
    let e0 : part 0 13632 (many_octets block_octets x.list ++ word_octets x.count) ≡ many_octets block_octets x.list = part-front (many_octets block_octets x.list) (word_octets x.count) 13632 0 13632 p1 (omega arith) ∙ part-last [] (many_octets block_octets x.list) 0 13632 refl l0 in
    let e1 : part 13632 4 (many_octets block_octets x.list ++ word_octets x.count) ≡ word_octets x.count = part-last (many_octets block_octets x.list) (word_octets x.count) 13632 4 p1 l1 in
    λ i. record { list = (ap (many block_in 852 16) e0 ∙ many-back block_in block_octets TypedBlock 852 block-long block-back x.list 16 h.list.0 h.list.1) i; count = (ap word_in e1 ∙ word-back x.count h.count) i }

pub header-long : (x : Header) → TypedHeader x → length (header_octets x) ≡ 16312
unfolding header_octets
header-long x h =
    let l0 : length (front_octets x.front) ≡ 2672 = front-long x.front h.front in
    let l1 : length (mark_octets x.sized) ≡ 4 = mark-long x.sized in
    let l2 : length (blocks_octets x.blocks) ≡ 13636 = blocks-long x.blocks h.blocks in
    let p1 : length (front_octets x.front) ≡ 2672 = l0 in
    let p2 : length (front_octets x.front ++ mark_octets x.sized) ≡ 2676 = join (front_octets x.front) (mark_octets x.sized) 2672 4 p1 l1 in
    let p3 : length (front_octets x.front ++ mark_octets x.sized ++ blocks_octets x.blocks) ≡ 16312 = join (front_octets x.front ++ mark_octets x.sized) (blocks_octets x.blocks) 2676 13636 p2 l2 in
    p3

pub header-back : (x : Header) → TypedHeader x → header_in (header_octets x) ≡ x
unfolding header_in header_octets
header-back x h =
    let l0 : length (front_octets x.front) ≡ 2672 = front-long x.front h.front in
    let l1 : length (mark_octets x.sized) ≡ 4 = mark-long x.sized in
    let l2 : length (blocks_octets x.blocks) ≡ 13636 = blocks-long x.blocks h.blocks in
    let p1 : length (front_octets x.front) ≡ 2672 = l0 in
    let p2 : length (front_octets x.front ++ mark_octets x.sized) ≡ 2676 = join (front_octets x.front) (mark_octets x.sized) 2672 4 p1 l1 in
    let p3 : length (front_octets x.front ++ mark_octets x.sized ++ blocks_octets x.blocks) ≡ 16312 = join (front_octets x.front ++ mark_octets x.sized) (blocks_octets x.blocks) 2676 13636 p2 l2 in
    let e0 : part 0 2672 (front_octets x.front ++ mark_octets x.sized ++ blocks_octets x.blocks) ≡ front_octets x.front = part-front (front_octets x.front ++ mark_octets x.sized) (blocks_octets x.blocks) 2676 0 2672 p2 (omega arith) ∙ part-front (front_octets x.front) (mark_octets x.sized) 2672 0 2672 p1 (omega arith) ∙ part-last [] (front_octets x.front) 0 2672 refl l0 in
    let e1 : part 2672 4 (front_octets x.front ++ mark_octets x.sized ++ blocks_octets x.blocks) ≡ mark_octets x.sized = part-front (front_octets x.front ++ mark_octets x.sized) (blocks_octets x.blocks) 2676 2672 4 p2 (omega arith) ∙ part-last (front_octets x.front) (mark_octets x.sized) 2672 4 p1 l1 in
    let e2 : part 2676 13636 (front_octets x.front ++ mark_octets x.sized ++ blocks_octets x.blocks) ≡ blocks_octets x.blocks = part-last (front_octets x.front ++ mark_octets x.sized) (blocks_octets x.blocks) 2676 13636 p2 l2 in
    λ i. record { front = (ap front_in e0 ∙ front-back x.front h.front) i; sized = (ap flag_in e1 ∙ mark-back x.sized) i; blocks = (ap blocks_in e2 ∙ blocks-back x.blocks h.blocks) i }
