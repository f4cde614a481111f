-- Two records are the same exactly when they become equal once their unused cells are 0. Assumes nothing.
use Prim.Native.Nat.{ℕ, zero, suc, ◌-◌}
use mathlib.Core.Path.{◌≡◌, refl, ap, sym, ◌∙◌}
use mathlib.Core.Bool.{Bool, true, false, not}
use Rattle.codec.specs.Codec.{number, flag, tested, unless, must, viewed, present, ◌then_by◌}
use Rattle.codec.specs.Characters.{characters}
use Rattle.codec.specs.Lists.{recurs, non_empty, listed, cells}
use Rattle.codec.proofs.ListLaws.{recurs-norm, listed-keeps}
use Rattle.codec.proofs.Agrees.{Agrees, exact-agrees, number-agrees, characters-agrees, then_by-agrees, and-agrees, present-agrees, optional-agrees, shaped-agrees, tested-agrees, unless-agrees, closed_by-agrees, listed-agrees, cells-agrees}
use Rattle.optional.specs.Optionals.{optional_number}
use Rattle.text.specs.Texts.{text, no_text}
use Rattle.header.specs.Zero.{no_address, no_addresses, no_dtg, no_stamp, no_identity, no_requests, no_response, no_reference, no_references, no_block}
use Rattle.header.specs.Table.{maybe, optional_text, unit_name, address, addresses, originator, recipients, room_behind, information, front, day_in, date, time, dtg, stamp, identity, optional_identity, standard_version, format, codes, handling, optional_stamp, optional_dtg, requests, optional_requests, times, compliance, response, optional_response, reference, references, optional_references, block, blocks}
use Rattle.header.specs.Same.{same_number, same_text, same_optional_text, same_address, same_addresses, same_optional_address, same_optional_addresses, same_front, same_optional_dtg, same_stamp, same_optional_stamp, same_identity, same_optional_identity, same_format, same_handling, same_optional_requests, same_times, same_compliance, same_response, same_optional_response, same_reference, same_references, same_optional_references, same_block, same_blocks, Same, header_norm}
use Rattle.header.specs.declared.Addresses.{Addresses}
use Rattle.header.specs.declared.OptionalAddresses.{OptionalAddresses}
use Rattle.header.specs.declared.Blocks.{Blocks}
use Rattle.header.specs.declared.Header.{Header}
use Rattle.header.proofs.Lawful.{address-lawful, reference-lawful, block-lawful}

may : (w lo hi : ℕ) → Agrees (maybe w lo hi) same_number
unfolding optional_number same_number
may w lo hi = shaped-agrees _ _ (optional-agrees 0 (number-agrees w lo hi 3)) (λ x. refl)

text-agrees : (n : ℕ) → Agrees (text n) same_text
unfolding text same_text tested characters
text-agrees n = shaped-agrees _ _ (cells-agrees 0 64 n 4 (tested-agrees non_empty 4 (characters-agrees n)) (λ cs. refl)) (λ x. refl)

optional-text-agrees : (n : ℕ) → Agrees (optional_text n) same_optional_text
unfolding optional_text same_optional_text
optional-text-agrees n = shaped-agrees _ _ (optional-agrees no_text (text-agrees n)) (λ x. refl)

unit-name-agrees : (b : Bool) → Agrees (unit_name b) same_optional_text
unfolding unit_name same_optional_text tested flag
unit-name-agrees b = shaped-agrees _ _ (present-agrees no_text (must b 6) (λ x. refl) (text-agrees 64)) (λ x. refl)

pub address-agrees : Agrees address same_address
unfolding address same_address unit_name viewed ◌then_by◌ tested
address-agrees = shaped-agrees _ _ (then_by-agrees (may 24 0 16777215) (λ u. unit-name-agrees (not u.present)) (λ u v y. refl)) (λ x. refl)

addresses-agrees : (n : ℕ) → Agrees (addresses n) same_addresses
unfolding addresses same_addresses
addresses-agrees n =
    shaped-agrees _ _ (cells-agrees no_address 16 (suc n) 5 (listed-agrees no_address address-agrees n) (listed-keeps no_address address address-lawful n)) (λ x. refl)

originator-agrees : Agrees originator same_optional_address
unfolding originator same_optional_address
originator-agrees = shaped-agrees _ _ (optional-agrees no_address address-agrees) (λ x. refl)

recipients-agrees : Agrees recipients same_optional_addresses
unfolding recipients same_optional_addresses
recipients-agrees = shaped-agrees _ _ (optional-agrees no_addresses (addresses-agrees 15)) (λ x. refl)

information-agrees : (n : ℕ) → Agrees (information n) same_optional_addresses
unfolding information same_optional_addresses
information-agrees n = shaped-agrees _ _ (present-agrees no_addresses (recurs n) (recurs-norm n) (addresses-agrees (n - 1))) (λ x. refl)

-- the normal form of G3 does not depend on its room
addresses-norm : (n : ℕ) (y : Addresses) → (addresses n).norm y ≡ (addresses 0).norm y
unfolding addresses cells listed viewed
addresses-norm zero y = refl
addresses-norm (suc n) y = refl

information-norm : (n : ℕ) (y : OptionalAddresses) → (information n).norm y ≡ (information 0).norm y
unfolding information viewed ◌then_by◌ present recurs tested flag
information-norm n y = λ i. record { present = recurs-norm n y.present i; addresses = go y.present y.addresses i }
  where
    go : (b : Bool) (a : Addresses) → (present no_addresses (addresses (n - 1)) b).norm a ≡ (present no_addresses (addresses 0) b).norm a
    go true a = addresses-norm (n - 1) a
    go false a = refl

front-agrees : Agrees front same_front
unfolding front same_front
front-agrees =
    shaped-agrees _ _
    (and-agrees (and-agrees (number-agrees 4 1 2 2) (and-agrees (may 2 0 1) originator-agrees))
    (then_by-agrees recipients-agrees (λ g. information-agrees (room_behind g)) (λ g h y. information-norm (room_behind g) y ∙ sym (information-norm (room_behind h) y))))
    (λ x. refl)

-- without unused cells
dtg-agrees : Agrees dtg ◌≡◌
unfolding dtg date day_in time viewed ◌then_by◌ number
dtg-agrees = exact-agrees (λ x. refl)

pub stamp-agrees : Agrees stamp same_stamp
unfolding stamp same_stamp
stamp-agrees = shaped-agrees _ _ (and-agrees dtg-agrees (may 12 0 4095)) (λ x. refl)

identity-agrees : Agrees identity same_identity
unfolding identity same_identity
identity-agrees = shaped-agrees _ _ (and-agrees (number-agrees 4 0 15 3) (and-agrees (number-agrees 7 0 127 3) (may 7 0 127))) (λ x. refl)

optional-identity-agrees : Agrees optional_identity same_optional_identity
unfolding optional_identity same_optional_identity
optional-identity-agrees = shaped-agrees _ _ (optional-agrees no_identity identity-agrees) (λ x. refl)

standard-version-agrees : (version : ℕ) → Agrees (standard_version version) same_number
unfolding standard_version
standard-version-agrees version = unless-agrees _ _ _ 3 (may 4 0 15)

format-agrees : (version : ℕ) → Agrees (format version) same_format
unfolding format same_format
format-agrees version =
    shaped-agrees _ _ (and-agrees (number-agrees 4 0 8 3) (and-agrees (standard-version-agrees version) (and-agrees optional-identity-agrees (optional-text-agrees 64)))) (λ x. refl)

codes-agrees : Agrees codes ◌≡◌
unfolding codes viewed ◌then_by◌ number
codes-agrees = exact-agrees (λ x. refl)

handling-agrees : Agrees handling same_handling
unfolding handling same_handling
handling-agrees = shaped-agrees _ _ (and-agrees (may 20 0 1048575) (and-agrees codes-agrees (optional-text-agrees 32))) (λ x. refl)

optional-stamp-agrees : Agrees optional_stamp same_optional_stamp
unfolding optional_stamp same_optional_stamp
optional-stamp-agrees = shaped-agrees _ _ (optional-agrees no_stamp stamp-agrees) (λ x. refl)

optional-dtg-agrees : Agrees optional_dtg same_optional_dtg
unfolding optional_dtg same_optional_dtg
optional-dtg-agrees = shaped-agrees _ _ (optional-agrees no_dtg dtg-agrees) (λ x. refl)

requests-agrees : Agrees requests ◌≡◌
unfolding requests viewed ◌then_by◌ flag
requests-agrees = exact-agrees (λ x. refl)

optional-requests-agrees : Agrees optional_requests same_optional_requests
unfolding optional_requests same_optional_requests
optional-requests-agrees = shaped-agrees _ _ (optional-agrees no_requests requests-agrees) (λ x. refl)

times-agrees : Agrees times same_times
unfolding times same_times
times-agrees = shaped-agrees _ _ (and-agrees optional-stamp-agrees (and-agrees optional-dtg-agrees optional-requests-agrees)) (λ x. refl)

compliance-agrees : Agrees compliance same_compliance
unfolding compliance same_compliance
compliance-agrees = shaped-agrees _ _ (and-agrees (number-agrees 3 1 6 3) (and-agrees (may 3 0 7) (may 6 0 63))) (λ x. refl)

response-agrees : Agrees response same_response
unfolding response same_response
response-agrees = shaped-agrees _ _ (and-agrees stamp-agrees (and-agrees compliance-agrees (optional-text-agrees 50))) (λ x. refl)

optional-response-agrees : Agrees optional_response same_optional_response
unfolding optional_response same_optional_response
optional-response-agrees = shaped-agrees _ _ (optional-agrees no_response response-agrees) (λ x. refl)

reference-agrees : Agrees reference same_reference
unfolding reference same_reference
reference-agrees = shaped-agrees _ _ (and-agrees address-agrees stamp-agrees) (λ x. refl)

references-agrees : Agrees references same_references
unfolding references same_references
references-agrees =
    shaped-agrees _ _ (cells-agrees no_reference 4 4 5 (listed-agrees no_reference reference-agrees 3) (listed-keeps no_reference reference reference-lawful 3)) (λ x. refl)

optional-references-agrees : Agrees optional_references same_optional_references
unfolding optional_references same_optional_references
optional-references-agrees = shaped-agrees _ _ (optional-agrees no_references references-agrees) (λ x. refl)

block-agrees : (version : ℕ) → Agrees (block version) same_block
unfolding block same_block
block-agrees version =
    shaped-agrees _ _
    (and-agrees (and-agrees (format-agrees version) (and-agrees handling-agrees times-agrees)) (and-agrees optional-response-agrees (closed_by-agrees 7 optional-references-agrees)))
    (λ x. refl)

blocks-agrees : (version : ℕ) → Agrees (blocks version) same_blocks
unfolding blocks same_blocks
blocks-agrees version =
    shaped-agrees _ _ (cells-agrees no_block 16 16 5 (listed-agrees no_block (block-agrees version) 15) (listed-keeps no_block (block version) (block-lawful version) 15)) (λ x. refl)

-- the same cells are unused in every version
pub blocks-norm : (v w : ℕ) (g : Blocks) → (blocks v).norm g ≡ (blocks w).norm g
unfolding blocks viewed cells listed block ◌then_by◌ format standard_version unless
blocks-norm v w g = refl

-- records that become equal once their unused cells are 0 are the same
pub norm-same : (x y : Header) → header_norm x ≡ header_norm y → Same x y
unfolding header_norm Same
norm-same x y e =
    let v = x.front.version in
    let b = ap (λ h. h.blocks) e ∙ blocks-norm y.front.version v y.blocks in
    (front-agrees.told x.front y.front (ap (λ h. h.front) e), (ap (λ h. h.sized) e, (blocks-agrees v).told x.blocks y.blocks b))

-- and the other way round
pub same-norm : (x y : Header) → Same x y → header_norm x ≡ header_norm y
unfolding header_norm Same
same-norm x y s =
    let v = x.front.version in
    let b = (blocks-agrees v).made x.blocks y.blocks s.1.1 ∙ blocks-norm v y.front.version y.blocks in
    λ i. record { front = front-agrees.made x.front y.front s.0 i; sized = s.1.0 i; blocks = b i }
