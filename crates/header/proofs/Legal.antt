-- A legal group's parts are legal. Assumes nothing.
use Prim.Native.Nat.{ℕ, zero, suc, ◌+◌, ◌-◌, ◌≤◌}
use mathlib.Core.Path.{◌≡◌, refl, ap₂}
use mathlib.Core.Bool.{Bool, true, false}
use mathlib.Core.List.{List, [], ◌∷◌, ◌++◌}
use lib.Dec.{lit≤}
use native.Mathlib.Omega.{arith}
use Rattle.codec.specs.Codec.{Codec, first, flag, number, nothing, tested, present, viewed, ◌then_by◌, ◌closed_by◌}
use Rattle.codec.specs.Lists.{recurs}
use Rattle.codec.specs.Writes.{Writes}
use Rattle.codec.proofs.Sequences.{first-zero}
use Rattle.codec.proofs.ListEnds.{wider-legal, wider-size, wider-write}
use Rattle.header.specs.Zero.{no_address, no_addresses, no_references}
use Rattle.header.specs.Table.{maybe, address, addresses, originator, recipients, room_behind, information, front, format, handling, times, optional_response, references, optional_references, block}
use Rattle.header.specs.declared.Addresses.{Addresses}
use Rattle.header.specs.declared.OptionalAddresses.{OptionalAddresses}
use Rattle.header.specs.declared.Front.{Front}
use Rattle.header.specs.declared.OptionalReferences.{OptionalReferences}
use Rattle.header.specs.declared.Block.{Block}

-- what is present in a legal optional part
present-legal : {A : Type 0} (x : A) (c : Codec A) (b : Bool) (y : A) → b ≡ true → (present x c b).check y ≡ 0 → c.check y ≡ 0
unfolding present
present-legal x c b y e h = rw e at h

pub references-legal : (x : OptionalReferences) → x.present ≡ true → optional_references.check x ≡ 0 → references.check x.references ≡ 0
unfolding optional_references viewed ◌then_by◌ flag first
references-legal x e h = present-legal no_references references x.present x.references e h

pub block-references : (version : ℕ) (x : Block) → (block version).check x ≡ 0 → optional_references.check x.references ≡ 0
unfolding block viewed ◌then_by◌ ◌closed_by◌ tested flag
block-references version x h =
    let a = first-zero (first ((format version).check x.format) (first (handling.check x.handling) (times.check x.times))) _ h in
    let b = first-zero (optional_response.check x.response) _ a.1 in
    (first-zero (optional_references.check x.references) _ b.1).0

pub addressees-legal : (x : OptionalAddresses) → x.present ≡ true → recipients.check x ≡ 0 → (addresses 15).check x.addresses ≡ 0
unfolding recipients viewed ◌then_by◌ flag first
addressees-legal x e h = present-legal no_addresses (addresses 15) x.present x.addresses e h

-- legal information addressees are legal, as long and written as the same bits, as recipients are
module _ (n : ℕ) (le : n ≤ 16) where
  record Wider (c d : Codec Addresses) (y : Addresses) : Type 0 where
    legal : d.check y ≡ 0
    size : c.size y ≡ d.size y
    bits : c.write y ≡ d.write y

  wider : (y : Addresses) → (addresses (n - 1)).check y ≡ 0 → Wider (addresses (n - 1)) (addresses 15) y
  unfolding addresses viewed
  wider y h =
      record {
        legal = wider-legal no_address address 16 (n - 1) 15 y.list y.count h (omega arith) (lit≤ tt);
        size = wider-size no_address address 16 (n - 1) 15 y.list y.count h (omega arith) (lit≤ tt);
        bits = wider-write no_address address 16 (n - 1) 15 y.list y.count h (omega arith) (lit≤ tt);
      }

  bit-size : (m : ℕ) (b : Bool) → (recurs m).size b ≡ 1
  unfolding recurs tested flag
  bit-size zero b = refl
  bit-size (suc m) b = refl

  bit-write : (m : ℕ) (b : Bool) → (recurs m).write b ≡ b ∷ []
  unfolding recurs tested flag
  bit-write zero b = refl
  bit-write (suc m) b = refl

  go : (b : Bool) (y : Addresses) → (present no_addresses (addresses (n - 1)) b).check y ≡ 0 → Wider (present no_addresses (addresses (n - 1)) b) (present no_addresses (addresses 15) b) y
  unfolding present nothing
  go true y h = wider y h
  go false y h = record { legal = refl; size = refl; bits = refl }

  module _ (x : OptionalAddresses) (h : (information n).check x ≡ 0) where
    here : Wider (present no_addresses (addresses (n - 1)) x.present) (present no_addresses (addresses 15) x.present) x.addresses
    unfolding information viewed ◌then_by◌
    here = go x.present x.addresses (first-zero ((recurs n).check x.present) _ h).1

    pub information-legal : recipients.check x ≡ 0
    unfolding information recipients viewed ◌then_by◌ flag first
    information-legal = here.legal

    pub information-size : (information n).size x ≡ recipients.size x
    unfolding information recipients viewed ◌then_by◌ flag
    information-size = ap₂ ◌+◌ (bit-size n x.present) here.size

    information-bits : (information n).write x ≡ recipients.write x
    unfolding information recipients viewed ◌then_by◌ flag
    information-bits = ap₂ ◌++◌ (bit-write n x.present) here.bits

    pub information-writes : (s t : List ℕ) (p q : ℕ) → Writes recipients x s t p q → Writes (information n) x s t p q
    information-writes s t p q w = record { bits = rw information-bits w.bits; ends = rw information-bits w.ends; next = rw information-size w.next }

pub front-recipients : (x : Front) → front.check x ≡ 0 → recipients.check x.recipients ≡ 0
unfolding front viewed ◌then_by◌
front-recipients x h = (first-zero (recipients.check x.recipients) _ (first-zero (first ((number 4 1 2 2).check x.version) (first ((maybe 2 0 1).check x.compression) (originator.check x.originator))) _ h).1).0

pub front-information : (x : Front) → front.check x ≡ 0 → (information (room_behind x.recipients)).check x.information ≡ 0
unfolding front viewed ◌then_by◌
front-information x h = (first-zero (recipients.check x.recipients) _ (first-zero (first ((number 4 1 2 2).check x.version) (first ((maybe 2 0 1).check x.compression) (originator.check x.originator))) _ h).1).1
