-- What the public reading returns, component by component: whether it is done, number, place and block of the refusal (each 0 for none) and the header's octets,
-- 0 on a refusal; and what the record's octets are afterwards.
use Rattle.std.specs.Prelude.{ℕ, Bool, true, false, ◌≡◌, List, Result, Ok, Err}
use Rattle.codec.specs.Refusals.{fault_no}
use Rattle.bits.specs.declared.OctetSize.{OctetSize}
use Rattle.codec.specs.declared.Fault.{Fault}
use Rattle.codec.specs.declared.FieldFault.{FieldFault}
use Rattle.codec.specs.declared.Refusal.{Refusal}
use Rattle.record_octets.specs.Record.{header_in, header_octets}
use Rattle.reader.specs.Reading.{Reading, accepted, rejected}

pub record Told : Type 0 where
  pub done : Bool
  pub number : ℕ
  pub place : ℕ
  pub block : ℕ
  pub octets : ℕ

-- what the call's result tells
unfoldable pub told : Result OctetSize (Refusal Fault) → Told
told (Ok n) = record { done = true; number = 0; place = 0; block = 0; octets = n.0 }
told (Err e) = record { done = false; number = fault_no e.fault; place = e.place.0; block = e.block.0; octets = 0 }

-- what it has to tell
unfoldable pub to_tell : Reading → Told
to_tell (accepted h n) = record { done = true; number = 0; place = 0; block = 0; octets = n }
to_tell (rejected f p b) = record { done = false; number = f; place = p; block = b; octets = 0 }

-- the record's octets after the call: those of the record that was read, each of them; refused, as they were
unfoldable pub record_after : Reading → List ℕ → List ℕ
record_after (accepted h n) s = header_octets h
record_after (rejected f p b) s = s

-- and they hold that record: its numbers are numbers of 32 bits, and its arrays have their cells
unfoldable pub Holds : Reading → List ℕ → Type 0
Holds (accepted h n) s = header_in s ≡ h
Holds (rejected f p b) s = Unit {0}

-- octets that a reading has filled, from 0 on
unfoldable pub Fills : Reading → List ℕ → Type 0
Fills (accepted h n) s = (s ≡ header_octets h) × (header_in s ≡ h)
Fills (rejected f p b) s = Unit {0}

-- the refusal that the reading of a field ended with
unfoldable pub stopped_by : FieldFault → Reading
stopped_by e = rejected (fault_no e.fault) e.place.0 0
