-- Table I has a codec's laws, group by group and whole: a header that may be written is read back, what is read is written again as the same bits, and no
-- header begins another. Assumes nothing.
use Prim.Native.Nat.{ℕ, suc, ◌-◌, ◌%◌, ◌≤◌, ◌<◌, ◌^◌}
use mathlib.Core.Path.{◌≡◌, refl, ap}
use mathlib.Core.Bool.{Bool, true, false, not, ◌||◌}
use lib.Dec.{eqb, lit<, lit≤}
use native.Mathlib.Omega.{arith}
use Rattle.codec.specs.Answer.{pick}
use Rattle.codec.specs.Codec.{number, flag, tested, must, nothing, present, viewed, ◌then_by◌, ◌&◌}
use Rattle.codec.specs.Lists.{recurs, listed, cells}
use Rattle.codec.proofs.Lawful.{Lawful}
use Rattle.codec.proofs.Fields.{number-lawful, flag-lawful}
use Rattle.codec.proofs.Sequences.{then_by-lawful, and-lawful, present-lawful, optional-lawful}
use Rattle.codec.proofs.Views.{shaped-lawful, must-lawful, closed_by-lawful, unless-lawful}
use Rattle.codec.proofs.ListLaws.{recurs-lawful, recurs-norm, listed-lawful, listed-keeps, listed-length, cells-lawful}
use Rattle.optional.specs.Optionals.{optional_number}
use Rattle.optional.specs.declared.OptionalNumber.{OptionalNumber}
use Rattle.optional.proofs.Lawful.{optional-number-lawful}
use Rattle.text.specs.Texts.{no_text}
use Rattle.text.proofs.Lawful.{text-lawful}
use Rattle.header.specs.Calendar.{days_in}
use Rattle.header.specs.Zero.{no_number, no_address, no_addresses, no_dtg, no_stamp, no_identity, no_requests, no_response, no_reference, no_references, no_block}
use Rattle.header.specs.Table.{maybe, optional_text, unit_name, address, addresses, originator, recipients, room_behind, information, front, day_in, date, time, dtg, stamp, identity, optional_identity, standard_version, format, codes, handling, optional_stamp, optional_dtg, requests, optional_requests, times, compliance, response, optional_response, reference, references, optional_references, block, blocks, wire}
use Rattle.header.specs.declared.OptionalAddresses.{OptionalAddresses}
use Rattle.header.specs.declared.Front.{Front}

-- a number below the limit of its width
num : (w lo hi fault : ℕ) → 0 < w → hi < 2 ^ w → 0 < fault → Lawful (number w lo hi fault)
num w lo hi fault hw h hf = number-lawful w lo hi fault hw h hf

may : (w lo hi : ℕ) → 0 < w → hi < 2 ^ w → Lawful (maybe w lo hi)
may w lo hi hw h = optional-number-lawful _ hw h

optional-text-lawful : (n : ℕ) → n ≤ 64 → Lawful (optional_text n)
unfolding optional_text
optional-text-lawful n h = shaped-lawful _ _ (optional-lawful no_text (text-lawful n h)) (λ x. refl)

unit-name-lawful : (b : Bool) → Lawful (unit_name b)
unfolding unit_name tested flag
unit-name-lawful b =
    shaped-lawful _ _ (then_by-lawful (must b 6) _ (must-lawful b 6 (lit< tt)) (present-lawful no_text (text-lawful 64 (lit≤ tt))) (λ x l. refl)) (λ x. refl)

pub address-lawful : Lawful address
unfolding address optional_number viewed ◌then_by◌ flag
address-lawful =
    shaped-lawful _ _
    (then_by-lawful (maybe 24 0 16777215) _ (may 24 0 16777215 (lit< tt) (lit< tt)) (λ u. unit-name-lawful (not u.present)) (λ u l. same-form u))
    (λ x. refl)
  where
    same-form : (u : OptionalNumber) → unit_name (not ((maybe 24 0 16777215).norm u).present) ≡ unit_name (not u.present)
    same-form u = refl

pub addresses-lawful : (n : ℕ) → n < 16 → Lawful (addresses n)
unfolding addresses
addresses-lawful n h =
    shaped-lawful _ _
    (cells-lawful no_address 16 (suc n) 5 (listed no_address address n) (listed-lawful no_address address address-lawful n) (lit< tt) h
    (listed-keeps no_address address address-lawful n) (listed-length no_address address address-lawful n))
    (λ x. refl)

originator-lawful : Lawful originator
unfolding originator
originator-lawful = shaped-lawful _ _ (optional-lawful no_address address-lawful) (λ x. refl)

recipients-lawful : Lawful recipients
unfolding recipients
recipients-lawful = shaped-lawful _ _ (optional-lawful no_addresses (addresses-lawful 15 (lit< tt))) (λ x. refl)

information-lawful : (n : ℕ) → n ≤ 16 → Lawful (information n)
unfolding information
information-lawful n h =
    shaped-lawful _ _
    (then_by-lawful (recurs n) _ (recurs-lawful n) (present-lawful no_addresses (addresses-lawful (n - 1) (omega arith)))
    (λ b l. ap (present no_addresses (addresses (n - 1))) (recurs-norm n b)))
    (λ x. refl)

-- the room behind G2 does not depend on unused cells
room-norm : (g : OptionalAddresses) → room_behind (recipients.norm g) ≡ room_behind g
unfolding recipients viewed ◌then_by◌ flag present addresses cells
room-norm g = go g.present g refl
  where
    go : (b : Bool) (g : OptionalAddresses) → g.present ≡ b → room_behind (recipients.norm g) ≡ room_behind g
    go true g e = rw e
    go false g e = rw e

pub front-lawful : Lawful front
unfolding front
front-lawful =
    shaped-lawful _ _
    (and-lawful (and-lawful (num 4 1 2 2 (lit< tt) (lit< tt) (lit< tt)) (and-lawful (may 2 0 1 (lit< tt) (lit< tt)) originator-lawful))
    (then_by-lawful recipients _ recipients-lawful (λ g. information-lawful (room_behind g) (omega arith)) (λ g l. ap information (room-norm g))))
    (λ x. refl)

-- no month has more days than the day's bits can tell
days-most : (year month : ℕ) → days_in year month < 2 ^ 5
unfolding days_in
days-most year month = go (eqb month 2) (eqb (year % 4) 0) (eqb month 4 || eqb month 6 || eqb month 9 || eqb month 11)
  where
    go : (february leap short : Bool) → pick february (pick leap 29 28) (pick short 30 31) < 2 ^ 5
    go true true short = lit< tt
    go true false short = lit< tt
    go false leap true = lit< tt
    go false leap false = lit< tt

day-lawful : (year month : ℕ) → Lawful (day_in year month)
unfolding day_in
day-lawful year month = num 5 1 (days_in year month) 3 (lit< tt) (days-most year month) (lit< tt)

date-lawful : Lawful date
unfolding date number
date-lawful =
    shaped-lawful _ _
    (then_by-lawful (number 7 0 99 3) _ (num 7 0 99 3 (lit< tt) (lit< tt) (lit< tt))
    (λ year. then_by-lawful (number 4 1 12 3) _ (num 4 1 12 3 (lit< tt) (lit< tt) (lit< tt)) (day-lawful year) (λ m l. refl))
    (λ y l. refl))
    (λ x. refl)

time-lawful : Lawful time
unfolding time
time-lawful =
    shaped-lawful _ _ (and-lawful (num 5 0 23 3 (lit< tt) (lit< tt) (lit< tt)) (and-lawful (num 6 0 59 3 (lit< tt) (lit< tt) (lit< tt)) (num 6 0 59 3 (lit< tt) (lit< tt) (lit< tt)))) (λ x. refl)

pub dtg-lawful : Lawful dtg
unfolding dtg
dtg-lawful = shaped-lawful _ _ (and-lawful date-lawful time-lawful) (λ x. refl)

pub stamp-lawful : Lawful stamp
unfolding stamp
stamp-lawful = shaped-lawful _ _ (and-lawful dtg-lawful (may 12 0 4095 (lit< tt) (lit< tt))) (λ x. refl)

identity-lawful : Lawful identity
unfolding identity
identity-lawful =
    shaped-lawful _ _ (and-lawful (num 4 0 15 3 (lit< tt) (lit< tt) (lit< tt)) (and-lawful (num 7 0 127 3 (lit< tt) (lit< tt) (lit< tt)) (may 7 0 127 (lit< tt) (lit< tt)))) (λ x. refl)

optional-identity-lawful : Lawful optional_identity
unfolding optional_identity
optional-identity-lawful = shaped-lawful _ _ (optional-lawful no_identity identity-lawful) (λ x. refl)

-- without its presence an optional number is the one whose cells are 0
not-present : (w lo hi : ℕ) (y : OptionalNumber) → y.present ≡ false → (maybe w lo hi).norm y ≡ no_number
unfolding optional_number viewed ◌then_by◌ flag present nothing no_number
not-present w lo hi y e = rw e

standard-version-lawful : (version : ℕ) → Lawful (standard_version version)
unfolding standard_version optional_number viewed ◌then_by◌ flag no_number
standard-version-lawful version =
    unless-lawful no_number _ 3 (lit< tt) (maybe 4 0 15) (may 4 0 15 (lit< tt) (lit< tt)) refl (not-present 4 0 15) (λ y. refl) (eqb version 1)

format-lawful : (version : ℕ) → Lawful (format version)
unfolding format
format-lawful version =
    shaped-lawful _ _
    (and-lawful (num 4 0 8 3 (lit< tt) (lit< tt) (lit< tt)) (and-lawful (standard-version-lawful version) (and-lawful optional-identity-lawful (optional-text-lawful 64 (lit≤ tt)))))
    (λ x. refl)

codes-lawful : Lawful codes
unfolding codes
codes-lawful =
    shaped-lawful _ _
    (and-lawful (num 2 0 3 3 (lit< tt) (lit< tt) (lit< tt))
    (and-lawful (num 1 0 1 3 (lit< tt) (lit< tt) (lit< tt)) (and-lawful (num 3 0 7 3 (lit< tt) (lit< tt) (lit< tt)) (num 2 0 3 3 (lit< tt) (lit< tt) (lit< tt)))))
    (λ x. refl)

handling-lawful : Lawful handling
unfolding handling
handling-lawful = shaped-lawful _ _ (and-lawful (may 20 0 1048575 (lit< tt) (lit< tt)) (and-lawful codes-lawful (optional-text-lawful 32 (lit≤ tt)))) (λ x. refl)

optional-stamp-lawful : Lawful optional_stamp
unfolding optional_stamp
optional-stamp-lawful = shaped-lawful _ _ (optional-lawful no_stamp stamp-lawful) (λ x. refl)

optional-dtg-lawful : Lawful optional_dtg
unfolding optional_dtg
optional-dtg-lawful = shaped-lawful _ _ (optional-lawful no_dtg dtg-lawful) (λ x. refl)

requests-lawful : Lawful requests
unfolding requests
requests-lawful = shaped-lawful _ _ (and-lawful flag-lawful (and-lawful flag-lawful flag-lawful)) (λ x. refl)

optional-requests-lawful : Lawful optional_requests
unfolding optional_requests
optional-requests-lawful = shaped-lawful _ _ (optional-lawful no_requests requests-lawful) (λ x. refl)

times-lawful : Lawful times
unfolding times
times-lawful = shaped-lawful _ _ (and-lawful optional-stamp-lawful (and-lawful optional-dtg-lawful optional-requests-lawful)) (λ x. refl)

compliance-lawful : Lawful compliance
unfolding compliance
compliance-lawful = shaped-lawful _ _ (and-lawful (num 3 1 6 3 (lit< tt) (lit< tt) (lit< tt)) (and-lawful (may 3 0 7 (lit< tt) (lit< tt)) (may 6 0 63 (lit< tt) (lit< tt)))) (λ x. refl)

response-lawful : Lawful response
unfolding response
response-lawful = shaped-lawful _ _ (and-lawful stamp-lawful (and-lawful compliance-lawful (optional-text-lawful 50 (lit≤ tt)))) (λ x. refl)

optional-response-lawful : Lawful optional_response
unfolding optional_response
optional-response-lawful = shaped-lawful _ _ (optional-lawful no_response response-lawful) (λ x. refl)

pub reference-lawful : Lawful reference
unfolding reference
reference-lawful = shaped-lawful _ _ (and-lawful address-lawful stamp-lawful) (λ x. refl)

references-lawful : Lawful references
unfolding references
references-lawful =
    shaped-lawful _ _
    (cells-lawful no_reference 4 4 5 (listed no_reference reference 3) (listed-lawful no_reference reference reference-lawful 3) (lit< tt) (lit≤ tt)
    (listed-keeps no_reference reference reference-lawful 3) (listed-length no_reference reference reference-lawful 3))
    (λ x. refl)

optional-references-lawful : Lawful optional_references
unfolding optional_references
optional-references-lawful = shaped-lawful _ _ (optional-lawful no_references references-lawful) (λ x. refl)

pub block-lawful : (version : ℕ) → Lawful (block version)
unfolding block
block-lawful version =
    shaped-lawful _ _
    (and-lawful (and-lawful (format-lawful version) (and-lawful handling-lawful times-lawful))
    (and-lawful optional-response-lawful (closed_by-lawful 7 (lit< tt) optional-references-lawful)))
    (λ x. refl)

blocks-lawful : (version : ℕ) → Lawful (blocks version)
unfolding blocks
blocks-lawful version =
    let b = block version in
    let lb = block-lawful version in
    shaped-lawful _ _
    (cells-lawful no_block 16 16 5 (listed no_block b 15) (listed-lawful no_block b lb 15) (lit< tt) (lit≤ tt) (listed-keeps no_block b lb 15) (listed-length no_block b lb 15))
    (λ x. refl)

-- the version has no unused cell
version-norm : (f : Front) → (front.norm f).version ≡ f.version
unfolding front viewed ◌then_by◌ number
version-norm f = refl

-- the whole header
pub wire-lawful : Lawful wire
unfolding wire
wire-lawful =
    shaped-lawful _ _
    (then_by-lawful front _ front-lawful (λ f. and-lawful (may 16 0 65535 (lit< tt) (lit< tt)) (blocks-lawful f.version))
    (λ f l. ap (λ (v : ℕ). maybe 16 0 65535 & blocks v) (version-norm f)))
    (λ x. refl)
