-- Demand 2 of the calls, by their contracts alone: a record that `read` fills is clean, one that it refuses to fill is as it was, and, in both directions, `read` hands back what `write` wrote, and `write` writes again what `read` accepted. The hypotheses are the two
-- contracts (`Writes`, `Reads`), that the record is valid or the datagram accepted, and that the output has room. Assumes nothing else.
use Prim.Native.Nat.{ℕ, ◌≤◌}
use mathlib.Core.Path.{◌≡◌, refl, ap, ap₂, sym, subst, ◌∙◌}
use mathlib.Core.Bool.{Bool, true, false}
use mathlib.Core.List.{List, ◌++◌}
use lib.ListN.{length, take, drop}
use lib.Seq.{take_at, length-take-le}
use native.Mathlib.Omega.{arith}
use Rattle.bits.specs.Bits.{AllOctets}
use Rattle.header.specs.Same.{header_norm}
use Rattle.record_octets.specs.Record.{header_in, header_octets}
use Rattle.reader.specs.Reading.{Reading, reading, accepted, rejected, user_data}
use Rattle.reader.specs.Told as read
use Rattle.reader.specs.Told.{Told, to_tell, record_after, Holds}
use Rattle.writer.specs.Writing.{header_size, header_of, ValidRecord, done, told}
use Rattle.header.proofs.Same.{same-norm}
use Rattle.roundtrip.specs.Inverse.{ReadAs}
use Rattle.roundtrip.specs.Demand2.{OctetsAnswer, Reads, Writes, Clean, CameBack, WentOut}
use Rattle.roundtrip.proofs.ReadBack.{header-octets, read_as, written-as}
use Rattle.roundtrip.proofs.UnusedZero.{unused-zero}
use Rattle.roundtrip.proofs.WrittenAgain.{header-within, written-again}

-- ---- a call of `read` that was refused, and one that was done

-- what was done is not refused
done-not : {X : Type 0} (b : Bool) → b ≡ true → b ≡ false → X
done-not true e f = let o : ◌≡◌ {A = ℕ} 0 1 = cc in absurd (omega arith)
done-not false e f = let o : ◌≡◌ {A = ℕ} 0 1 = cc in absurd (omega arith)

pub read-refused : (s before : List ℕ) (r : OctetsAnswer) (after : List ℕ) → Reads s before r after → (read.told r).done ≡ false → after ≡ before
unfolding to_tell record_after
read-refused s before r after call bad = go (reading s) refl
  where
    go : (x : Reading) → reading s ≡ x → after ≡ before
    go (accepted h n) e = done-not (read.told r).done (ap (λ (t : Told). t.done) (call.tells ∙ ap to_tell e)) bad
    go (rejected f p b) e = call.leaves ∙ ap (λ (x : Reading). record_after x before) e

-- the record that the octets hold, and that they are its own
pub record Took (s after : List ℕ) (n : ℕ) : Type 0 where
  pub took : reading s ≡ accepted (header_in after) n
  pub whole : after ≡ header_octets (header_in after)

module _ (s before : List ℕ) (r : OctetsAnswer) (after : List ℕ) (call : Reads s before r after) (fine : (read.told r).done ≡ true) where
  pub was-accepted : Took s after (read.told r).octets
  unfolding to_tell record_after Holds
  was-accepted = go (reading s) refl call.holds
    where
      go : (x : Reading) → reading s ≡ x → Holds x after → Took s after (read.told r).octets
      go (accepted h n) e k =
          let l = call.tells ∙ ap to_tell e in
          record {
            took = e ∙ ap₂ accepted (sym k) (sym (ap (λ (t : Told). t.octets) l));
            whole = call.leaves ∙ ap (λ (x : Reading). record_after x before) e ∙ ap header_octets (sym k);
          }
      go (rejected f p b) e k = done-not (read.told r).done fine (ap (λ (t : Told). t.done) (call.tells ∙ ap to_tell e))

  pub read-clean : Clean after
  read-clean = record { whole = was-accepted.whole; unused_zero = unused-zero s (header_in after) (read.told r).octets was-accepted.took }

-- ---- `write`, then `read` of what it wrote

module _ (octets : List ℕ) (count : ℕ) (valid : ValidRecord (header_in octets) count) (out : List ℕ) (room : header_size (header_in octets) ≤ length out) (w : OctetsAnswer) (out' : List ℕ) (wrote : Writes octets count out w out') where
  write_done : told w ≡ done (header_size (header_in octets))
  write_done = wrote.tells ∙ (written-as (header_in octets) count valid out room).answer ∙ ap done (header-octets (header_in octets))

  begins : take (header_size (header_in octets)) out' ≡ header_of (header_in octets)
  begins =
      let e = wrote.leaves ∙ (written-as (header_in octets) count valid out room).output in
      ap (take (header_size (header_in octets))) e ∙ take_at (header_of (header_in octets)) (drop (length (header_of (header_in octets))) out) (header_size (header_in octets)) (header-octets (header_in octets))

  module _ (d : List ℕ) (many : length d ≡ count) (before : List ℕ) (r : OctetsAnswer) (after : List ℕ) (call : Reads (take (header_size (header_in octets)) out' ++ d) before r after) where
    back : ReadAs (header_in octets) (header_size (header_in octets)) d (header_of (header_in octets) ++ d)
    back = read_as (header_in octets) count valid d many

    accepts : reading (take (header_size (header_in octets)) out' ++ d) ≡ accepted back.header (header_size (header_in octets))
    accepts = ap (λ (l : List ℕ). reading (l ++ d)) begins ∙ back.read

    all : read.told r ≡ to_tell (accepted back.header (header_size (header_in octets)))
    all = call.tells ∙ ap to_tell accepts

    -- the record that came back is the normal form of the one that was written
    normal : back.header ≡ header_norm (header_in octets)
    normal = sym (unused-zero _ back.header _ accepts) ∙ sym (same-norm (header_in octets) back.header back.same)

    left : Holds (accepted back.header (header_size (header_in octets))) after
    left = subst (λ (x : Reading). Holds x after) accepts call.holds

    pub came-back : CameBack octets w r after
    unfolding to_tell record_after Holds
    came-back =
        record {
          read_done = ap (λ (t : Told). t.done) all;
          same_length = write_done ∙ ap done (sym (ap (λ (t : Told). t.octets) all));
          same_record = rw left back.same;
          same_octets = call.leaves ∙ ap (λ (x : Reading). record_after x before) accepts ∙ ap header_octets normal;
        }

-- ---- `read`, then `write` of what it accepted

module _ (s : List ℕ) (octets : AllOctets s) (before : List ℕ) (r : OctetsAnswer) (after : List ℕ) (call : Reads s before r after) (fine : (read.told r).done ≡ true) where
  took : reading s ≡ accepted (header_in after) (read.told r).octets
  took = (was-accepted s before r after call fine).took

  long : length (take (read.told r).octets s) ≡ (read.told r).octets
  long = length-take-le (read.told r).octets s (header-within s octets (read.told r).octets (header_in after) took)

  module _ (out : List ℕ) (room : (read.told r).octets ≤ length out) (w : OctetsAnswer) (out' : List ℕ) (wrote : Writes after (length (user_data s)) out w out') where
    pub went-out : WentOut s r out w out'
    went-out =
        let a = written-again s octets (read.told r).octets (header_in after) took out room in
        record {
          same_length = wrote.tells ∙ a.answer ∙ ap done long;
          same_octets = wrote.leaves ∙ a.output ∙ ap (λ (k : ℕ). take (read.told r).octets s ++ drop k out) long;
        }
