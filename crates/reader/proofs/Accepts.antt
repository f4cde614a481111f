-- The reading, way by way: each refusal where its check fails and no earlier one does, and what is known of an accepted datagram. Assumes nothing.
use Prim.Native.Nat.{ℕ, zero, suc, ◌-◌, ◌<◌, ◌≤◌}
use mathlib.Core.Path.{◌≡◌, refl, ap, sym, ◌∙◌}
use mathlib.Core.Bool.{Bool, true, false}
use mathlib.Core.List.{List, []}
use lib.ListN.{length, take, drop, length-drop}
use lib.Seq.{take_all, drop-length}
use lib.Dec.{leb}
use borrow.Author.Tests.{le-leb, lt-leb}
use native.Mathlib.Omega.{arith}
use Rattle.bits.specs.Bits.{bits_of}
use Rattle.bits.specs.Units.{fill_bits, whole_octets, datagram_limit}
use Rattle.bits.specs.declared.BitPlace.{BitPlace}
use Rattle.bits.proofs.OctetBits.{length-bits_of}
use Rattle.codec.specs.Answer.{Answer, got, refused, pick}
use Rattle.codec.specs.Refusals.{answer, fault_no}
use Rattle.bits.specs.declared.OctetSize.{OctetSize}
use Rattle.codec.specs.declared.Fault.{Fault}
use Rattle.codec.specs.declared.FieldFault.{FieldFault}
use Rattle.codec.specs.declared.Refusal.{Refusal}
use Rattle.std.specs.Prelude.{Ok, Err}
use Rattle.codec.proofs.Lawful.{read-within}
use Rattle.header.specs.Table.{wire}
use Rattle.codec.specs.Verdict.{Verdict, whether}
use Rattle.header.specs.declared.Header.{Header}
use Rattle.header.specs.declared.Wire.{Wire}
use Rattle.header.proofs.Lawful.{wire-lawful}
use Rattle.reader.specs.Reading.{Reading, accepted, rejected, record_of, read_fill, verdict_on, accepted_by, settled, filled, judged, reading, behind_header, user_data}
use Rattle.reader.specs.Told.{Told, told, to_tell, stopped_by}

pub reading-long : (s : List ℕ) → datagram_limit < length s → reading s ≡ rejected 12 0 0
unfolding reading
reading-long s h = rw (lt-leb (length s) datagram_limit h)

reading-by : (s : List ℕ) → length s ≤ datagram_limit → (a : Answer Wire) → a ≡ wire.read (bits_of s) 0 → reading s ≡ judged s a
unfolding reading
reading-by s short a h = rw (le-leb (length s) datagram_limit short, ← h)

pub reading-fields : (s : List ℕ) → length s ≤ datagram_limit → (f : FieldFault) (w : Wire) → answer (Err f) w ≡ wire.read (bits_of s) 0 → reading s ≡ stopped_by f
unfolding answer judged stopped_by
reading-fields s short f w e = reading-by s short (refused (fault_no f.fault) f.place.0) e

module _ (s : List ℕ) (short : length s ≤ datagram_limit) (w : Wire) (end : BitPlace) (e : answer (Ok end) w ≡ wire.read (bits_of s) 0) where
  got-wire : got w end.0 ≡ wire.read (bits_of s) 0
  unfolding answer
  got-wire = e

  -- the header's octets are octets of the datagram
  pub octets-within : whole_octets end.0 ≤ length s
  octets-within = omega (arith, read-within wire-lawful (bits_of s) end.0 w (sym got-wire), length-bits_of s)

  pub reading-fill : (f : FieldFault) → answer (Err f) false ≡ read_fill (fill_bits end.0) (bits_of s) end.0 → reading s ≡ stopped_by f
  unfolding answer judged filled stopped_by
  reading-fill f h = reading-by s short (got w end.0) got-wire ∙ rw (← h)

  pub reading-settled : (q : BitPlace) → answer (Ok q) false ≡ read_fill (fill_bits end.0) (bits_of s) end.0 → reading s ≡ settled w (whole_octets end.0) (length s - whole_octets end.0)
  unfolding answer judged filled
  reading-settled q h = reading-by s short (got w end.0) got-wire ∙ rw (← h)

-- an accepted header's octets are octets of the datagram
accepted-within : (v : Verdict) (h : Header) (octets n : ℕ) → octets ≤ n → (to_tell (accepted_by v h octets)).octets ≤ n
unfolding accepted_by to_tell
accepted-within v h octets n l = go v.number
  where
    go : (k : ℕ) → (to_tell (whether k (accepted h octets) (rejected v.number 0 v.block))).octets ≤ n
    go zero = l
    go (suc k) = omega arith

settled-within : (w : Wire) (octets behind n : ℕ) → octets ≤ n → (to_tell (settled w octets behind)).octets ≤ n
unfolding settled
settled-within w octets behind n h = accepted-within (verdict_on (record_of w) w.size octets behind) (record_of w) octets n h

filled_within : (s : List ℕ) (w : Wire) (end : ℕ) (a : Answer Bool) → whole_octets end ≤ length s → (to_tell (filled s w end a)).octets ≤ length s
unfolding filled to_tell
filled_within s w end (refused f p) h = omega arith
filled_within s w end (got b p) h = settled-within w (whole_octets end) (length s - whole_octets end) (length s) h

judged-within : (s : List ℕ) (a : Answer Wire) → wire.read (bits_of s) 0 ≡ a → (to_tell (judged s a)).octets ≤ length s
unfolding judged to_tell
judged-within s (refused f p) e = omega arith
judged-within s (got w end) e = filled_within s w end _ (omega (arith, read-within wire-lawful (bits_of s) end w e, length-bits_of s))

pub reading-within : (s : List ℕ) → (to_tell (reading s)).octets ≤ length s
unfolding reading to_tell
reading-within s = go (leb (length s) datagram_limit)
  where
    go : (b : Bool) → (to_tell (pick b (judged s (wire.read (bits_of s) 0)) (rejected 12 0 0))).octets ≤ length s
    go true = judged-within s (wire.read (bits_of s) 0) refl
    go false = omega arith

-- the user data, by what the reading tells
behind-done : (s : List ℕ) (x : Reading) → (to_tell x).done ≡ true → behind_header s x ≡ drop (to_tell x).octets s
unfolding behind_header to_tell
behind-done s (accepted h n) e = refl
behind-done s (rejected f p b) e = let z : ◌≡◌ {A = ℕ} 0 1 = cc in absurd (omega arith)

behind-refused : (s : List ℕ) (x : Reading) → (to_tell x).done ≡ false → behind_header s x ≡ []
unfolding behind_header to_tell
behind-refused s (accepted h n) e = let z : ◌≡◌ {A = ℕ} 0 1 = cc in absurd (omega arith)
behind-refused s (rejected f p b) e = refl

-- the part of the datagram that is handed back
module _ (s : List ℕ) where
  pub length-within : (n : OctetSize) → told (Ok n) ≡ to_tell (reading s) → n.0 ≤ length s
  unfolding told
  length-within n e = omega (arith, ap (λ (t : Told). t.octets) e, reading-within s)

  pub part-done : (n : OctetSize) → told (Ok n) ≡ to_tell (reading s) → take (length s - n.0) (drop n.0 s) ≡ user_data s
  unfolding told
  part-done n e =
      take_all (length s - n.0) (drop n.0 s) (rw length-drop (omega arith))
      ∙ ap (λ (k : ℕ). drop k s) (ap (λ (t : Told). t.octets) e)
      ∙ sym (behind-done s (reading s) (sym (ap (λ (t : Told). t.done) e)))

  pub part-refused : (r : Refusal Fault) → told (Err r) ≡ to_tell (reading s) → take (length s - length s) (drop (length s) s) ≡ user_data s
  unfolding told
  part-refused r e =
      take_all (length s - length s) (drop (length s) s) (rw length-drop (omega arith)) ∙ drop-length s
      ∙ sym (behind-refused s (reading s) (sym (ap (λ (t : Told). t.done) e)))
