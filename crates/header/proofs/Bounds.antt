-- No legal header is longer than 8,192 octets: how many bits each part of Table I takes at most, and the whole. Assumes nothing.
use Prim.Native.Nat.{ℕ, zero, suc, ◌+◌, ◌-◌, ◌*◌, ◌≤◌}
use mathlib.Core.Path.{◌≡◌}
use mathlib.Core.Bool.{Bool, true, false, not}
use lib.Dec.{lit<}
use native.Mathlib.Omega.{arith}
use Rattle.codec.specs.Codec.{flag, nothing, first, present, viewed, ◌then_by◌}
use Rattle.codec.specs.Lists.{recurs, listed}
use Rattle.codec.proofs.Bounds.{Bounded, number-bounded, flag-bounded, then_by-bounded, behind-bounded, and-bounded, present-bounded, optional-bounded, shaped-bounded, tested-bounded, must-bounded, closed_by-bounded, characters-bounded, listed-each, cells-bounded, cells-legal, cells-counted, cells-each, unless-bounded}
use Rattle.optional.specs.Optionals.{optional_number}
use Rattle.text.specs.Texts.{text, no_text}
use Rattle.header.specs.Calendar.{days_in}
use Rattle.header.specs.Zero.{no_address, no_addresses, no_dtg, no_stamp, no_identity, no_requests, no_response, no_reference, no_references, no_block}
use Rattle.header.specs.Table.{maybe, optional_text, unit_name, address, addresses, originator, recipients, room_behind, information, front, day_in, date, time, dtg, stamp, identity, optional_identity, standard_version, format, codes, handling, optional_stamp, optional_dtg, requests, optional_requests, times, compliance, response, optional_response, reference, references, optional_references, block, blocks, wire}
use Rattle.header.specs.declared.Addresses.{Addresses}
use Rattle.header.specs.declared.OptionalAddresses.{OptionalAddresses}
use Rattle.header.specs.declared.Wire.{Wire}

may : (w lo hi : ℕ) → Bounded (maybe w lo hi) (1 + w)
unfolding optional_number
may w lo hi = shaped-bounded _ _ (optional-bounded 0 (number-bounded w lo hi 3))

text-bounded : (n : ℕ) → Bounded (text n) (7 * n)
unfolding text
text-bounded n = shaped-bounded _ _ (cells-bounded 0 64 n 4 (lit< tt) _ (tested-bounded _ 4 (characters-bounded n)))

optional-text-bounded : (n : ℕ) → Bounded (optional_text n) (1 + 7 * n)
unfolding optional_text
optional-text-bounded n = shaped-bounded _ _ (optional-bounded no_text (text-bounded n))

unit-name-bounded : (b : Bool) → Bounded (unit_name b) 449
unfolding unit_name
unit-name-bounded b = shaped-bounded _ _ (behind-bounded (must-bounded b 6) (present-bounded no_text (text-bounded 64)))

address-bounded : Bounded address 474
unfolding address
address-bounded = shaped-bounded _ _ (behind-bounded (may 24 0 16777215) (λ u. unit-name-bounded (not u.present)))

-- each address of a list with its recurrence bit
addresses-counted : (n : ℕ) (y : Addresses) → (addresses n).check y ≡ 0 → ((addresses n).size y ≤ y.count * 475) × (y.count ≤ suc n)
unfolding addresses viewed
addresses-counted n y l = (
  cells-counted no_address 16 (suc n) 5 (lit< tt) _ (listed-each no_address address-bounded n) (y.list, y.count) l,
  (cells-legal no_address 16 (suc n) 5 (lit< tt) (listed no_address address n) (y.list, y.count) l).0,
)

addresses-bounded : (n : ℕ) → Bounded (addresses n) (suc n * 475)
unfolding addresses
addresses-bounded n = shaped-bounded _ _ (cells-each no_address 16 (suc n) 5 (lit< tt) _ (listed-each no_address address-bounded n))

originator-bounded : Bounded originator 475
unfolding originator
originator-bounded = shaped-bounded _ _ (optional-bounded no_address address-bounded)

recurs-bounded : (n : ℕ) → Bounded (recurs n) 1
unfolding recurs
recurs-bounded zero = must-bounded false 5
recurs-bounded (suc n) = flag-bounded

information-bounded : (n : ℕ) → Bounded (information n) (1 + suc (n - 1) * 475)
unfolding information
information-bounded n = shaped-bounded _ _ (behind-bounded (recurs-bounded n) (present-bounded no_addresses (addresses-bounded (n - 1))))

-- G2 and G3 share the room of 16 addresses; the bits of one more are left, for the G3 that finds none
lists-size : (g : OptionalAddresses) → recipients.check g ≡ 0 → recipients.size g + (1 + suc (room_behind g - 1) * 475) ≤ 2 + 17 * 475
unfolding recipients viewed ◌then_by◌ flag present nothing first
lists-size g l = go g.present g.addresses l
  where
    go : (b : Bool) (y : Addresses) → recipients.check (record { present = b; addresses = y }) ≡ 0 → recipients.size (record { present = b; addresses = y }) + (1 + suc (room_behind (record { present = b; addresses = y }) - 1) * 475) ≤ 2 + 17 * 475
    go true y l = omega (arith, addresses-counted 15 y l)
    go false y l = omega arith

-- the fields before the header size
pub front-bounded : Bounded front 8559
unfolding front
front-bounded =
    shaped-bounded _ _
    (and-bounded (and-bounded (number-bounded 4 1 2 2) (and-bounded (may 2 0 1) originator-bounded))
    (then_by-bounded recipients _ (λ g. 1 + suc (room_behind g - 1) * 475) lists-size (λ g. information-bounded (room_behind g))))

dtg-bounded : Bounded dtg 33
unfolding dtg date time day_in
dtg-bounded =
    shaped-bounded _ _
    (and-bounded (shaped-bounded _ _ (behind-bounded (number-bounded 7 0 99 3) (λ year. behind-bounded (number-bounded 4 1 12 3) (λ month. number-bounded 5 1 (days_in year month) 3))))
    (shaped-bounded _ _ (and-bounded (number-bounded 5 0 23 3) (and-bounded (number-bounded 6 0 59 3) (number-bounded 6 0 59 3)))))

stamp-bounded : Bounded stamp 46
unfolding stamp
stamp-bounded = shaped-bounded _ _ (and-bounded dtg-bounded (may 12 0 4095))

identity-bounded : Bounded optional_identity 20
unfolding optional_identity identity
identity-bounded =
    shaped-bounded _ _ (optional-bounded no_identity (shaped-bounded _ _ (and-bounded (number-bounded 4 0 15 3) (and-bounded (number-bounded 7 0 127 3) (may 7 0 127)))))

standard-version-bounded : (version : ℕ) → Bounded (standard_version version) 5
unfolding standard_version
standard-version-bounded version = unless-bounded _ _ 3 (may 4 0 15) _

format-bounded : (version : ℕ) → Bounded (format version) 478
unfolding format
format-bounded version = shaped-bounded _ _ (and-bounded (number-bounded 4 0 8 3) (and-bounded (standard-version-bounded version) (and-bounded identity-bounded (optional-text-bounded 64))))

codes-bounded : Bounded codes 8
unfolding codes
codes-bounded = shaped-bounded _ _ (and-bounded (number-bounded 2 0 3 3) (and-bounded (number-bounded 1 0 1 3) (and-bounded (number-bounded 3 0 7 3) (number-bounded 2 0 3 3))))

handling-bounded : Bounded handling 254
unfolding handling
handling-bounded = shaped-bounded _ _ (and-bounded (may 20 0 1048575) (and-bounded codes-bounded (optional-text-bounded 32)))

times-bounded : Bounded times 85
unfolding times optional_stamp optional_dtg optional_requests requests
times-bounded =
    shaped-bounded _ _
    (and-bounded (shaped-bounded _ _ (optional-bounded no_stamp stamp-bounded))
    (and-bounded (shaped-bounded _ _ (optional-bounded no_dtg dtg-bounded))
    (shaped-bounded _ _ (optional-bounded no_requests (shaped-bounded _ _ (and-bounded flag-bounded (and-bounded flag-bounded flag-bounded)))))))

compliance-bounded : Bounded compliance 14
unfolding compliance
compliance-bounded = shaped-bounded _ _ (and-bounded (number-bounded 3 1 6 3) (and-bounded (may 3 0 7) (may 6 0 63)))

response-bounded : Bounded optional_response 412
unfolding optional_response response
response-bounded =
    shaped-bounded _ _ (optional-bounded no_response (shaped-bounded _ _ (and-bounded stamp-bounded (and-bounded compliance-bounded (optional-text-bounded 50)))))

reference-bounded : Bounded reference 520
unfolding reference
reference-bounded = shaped-bounded _ _ (and-bounded address-bounded stamp-bounded)

references-bounded : Bounded optional_references 2085
unfolding optional_references references
references-bounded =
    shaped-bounded _ _
    (optional-bounded no_references (shaped-bounded _ _ (cells-each no_reference 4 4 5 (lit< tt) _ (listed-each no_reference reference-bounded 3))))

-- a legal block takes so many bits at most
pub block-bounded : (version : ℕ) → Bounded (block version) 3315
unfolding block
block-bounded version =
    shaped-bounded _ _
    (and-bounded (and-bounded (format-bounded version) (and-bounded handling-bounded times-bounded)) (and-bounded response-bounded (closed_by-bounded 7 references-bounded)))

blocks-bounded : (version : ℕ) → Bounded (blocks version) 53056
unfolding blocks
blocks-bounded version = shaped-bounded _ _ (cells-each no_block 16 16 5 (lit< tt) _ (listed-each no_block (block-bounded version) 15))

wire-most : Bounded wire 61632
unfolding wire
wire-most = shaped-bounded _ _ (behind-bounded front-bounded (λ f. and-bounded (may 16 0 65535) (blocks-bounded f.version)))

-- document 01's maxima leave no header longer than 8,192 octets, which are 65,536 bits
pub wire-bounded : (w : Wire) → wire.check w ≡ 0 → wire.size w ≤ 65536
wire-bounded w l = omega (arith, wire-most.most w l)
