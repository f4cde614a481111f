-- The rules and the sizes: what the reading makes of the verdict on them. Assumes nothing.
use Prim.Native.Nat.{ℕ, zero, suc, ◌<◌}
use mathlib.Core.Path.{◌≡◌, refl}
use native.Mathlib.Omega.{arith}
use Rattle.codec.specs.Refusals.{fault_no, finding_says}
use Rattle.codec.specs.declared.BlockFault.{BlockFault}
use Rattle.codec.proofs.Told.{fault-positive}
use Rattle.header.specs.declared.Header.{Header}
use Rattle.header.specs.declared.Wire.{Wire}
use Rattle.std.specs.Prelude.{Ok, Err, ⊤}
use Rattle.reader.specs.Reading.{record_of, verdict_on, accepted_by, settled, accepted, rejected}

module _ (w : Wire) (octets behind : ℕ) where
  -- nothing is refused
  pub settled-right : finding_says {A = ⊤} (Ok tt) ≡ verdict_on (record_of w) w.size octets behind → settled w octets behind ≡ accepted (record_of w) octets
  unfolding settled accepted_by finding_says
  settled-right e = rw (← e)

  -- a rule or a size is
  pub settled-failed : (f : BlockFault) → finding_says {A = ⊤} (Err f) ≡ verdict_on (record_of w) w.size octets behind → settled w octets behind ≡ rejected (fault_no f.fault) 0 f.block.0
  unfolding settled accepted_by finding_says
  settled-failed f e = rw (← e) (go (record_of w) (fault_no f.fault) (fault-positive f.fault))
    where
      go : (h : Header) (k : ℕ) → 0 < k → accepted_by (record { number = k; block = f.block.0 }) h octets ≡ rejected k 0 f.block.0
      go h zero l = absurd (omega arith)
      go h (suc k) l = refl
