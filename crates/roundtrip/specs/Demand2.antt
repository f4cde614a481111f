-- DEMAND 2, whole, for both versions of the header. Every valid record is, given room, written as its one header and read back the same; every header accepted is written again as the same octets. First of what the calls are promised
-- to do (`reading`, `writing`), then of the calls themselves, by their contracts alone. The proof is proofs/Demand2.antt.
use Rattle.std.specs.Prelude.{ℕ, ◌≤◌, ◌≡◌, true, false, List, ◌++◌, length, take, drop, Result}
use Rattle.bits.specs.Bits.{AllOctets}
use Rattle.bits.specs.declared.OctetSize.{OctetSize}
use Rattle.codec.specs.declared.Fault.{Fault}
use Rattle.codec.specs.declared.Refusal.{Refusal}
use Rattle.header.specs.Same.{Same, header_norm}
use Rattle.header.specs.declared.Header.{Header}
use Rattle.record_octets.specs.Record.{header_in, header_octets}
use Rattle.reader.specs.Reading.{reading, accepted, user_data}
use Rattle.reader.specs.Told as read
use Rattle.reader.specs.Told.{to_tell, record_after, Holds}
use Rattle.writer.specs.Writing.{header_size, header_of, ValidRecord, done, writing, output_after, told}
use Rattle.roundtrip.specs.Inverse.{ReadAs, WrittenAs}

-- the answer of `read`, and of `write`: the header's octets, or the refusal
abbrev pub OctetsAnswer : Type 0
OctetsAnswer = Result OctetSize (Refusal Fault)

-- ---- the calls, as their contracts have them. A record is lent octets: any octets are some record (`header_in`), and `header_octets` are a record's own octets

-- `read` was given s and a record with the octets `before`; it gave r and left `after`
pub record Reads (s before : List ℕ) (r : OctetsAnswer) (after : List ℕ) : Type 0 where
  pub tells : read.told r ≡ to_tell (reading s)
  pub leaves : after ≡ record_after (reading s) before
  pub holds : Holds (reading s) after

-- `write` was given a record with these octets, so many octets of user data and the output `out`; it gave w and left out'
pub record Writes (octets : List ℕ) (count : ℕ) (out : List ℕ) (w : OctetsAnswer) (out' : List ℕ) : Type 0 where
  pub tells : told w ≡ writing (header_in octets) count (length out)
  pub leaves : out' ≡ output_after (header_in octets) (writing (header_in octets) count (length out)) out

-- `read` was done: the octets that it left are those of the record that they hold, whose unused cells are 0
pub record Clean (after : List ℕ) : Type 0 where
  pub whole : after ≡ header_octets (header_in after)
  pub unused_zero : header_norm (header_in after) ≡ header_in after

-- `write` and then `read` were done: the header is as long as `write` said, what came back is the same record, and its octets are those of that record with
-- 0 in every unused cell and between the cells, whatever was there in the octets that were written
pub record CameBack (octets : List ℕ) (w : OctetsAnswer) (r : OctetsAnswer) (after : List ℕ) : Type 0 where
  pub read_done : (read.told r).done ≡ true
  pub same_length : told w ≡ done (read.told r).octets
  pub same_record : Same (header_in octets) (header_in after)
  pub same_octets : after ≡ header_octets (header_norm (header_in octets))

-- `read` was done and then `write` too: the octets that were read as the header now begin the output, whose others are as they were
pub record WentOut (s : List ℕ) (r : OctetsAnswer) (out : List ℕ) (w : OctetsAnswer) (out' : List ℕ) : Type 0 where
  pub same_length : told w ≡ done (read.told r).octets
  pub same_octets : out' ≡ take (read.told r).octets s ++ drop (read.told r).octets out

-- ---- the demand

pub record Demand2 : Type 0 where
  -- every valid record is, given room, written as its header
  pub written : (h : Header) (count : ℕ) → ValidRecord h count → (out : List ℕ) → header_size h ≤ length out → WrittenAs h count (header_of h) out
  -- which is its only one: whatever is accepted as the same record begins with these octets
  pub only : (h x : Header) (s : List ℕ) (n : ℕ) → AllOctets s → reading s ≡ accepted x n → Same x h → take n s ≡ header_of h
  -- and read back the same, with any user data of that count behind it
  pub read_back : (h : Header) (count : ℕ) → ValidRecord h count → (d : List ℕ) → length d ≡ count → ReadAs h (header_size h) d (header_of h ++ d)
  -- every accepted header's record is valid with the user data behind it, has 0 in its unused cells, and is written again as the same octets
  pub valid : (s : List ℕ) (h : Header) (n : ℕ) → AllOctets s → reading s ≡ accepted h n → ValidRecord h (length (user_data s))
  pub unused_zero : (s : List ℕ) (h : Header) (n : ℕ) → reading s ≡ accepted h n → header_norm h ≡ h
  pub again : (s : List ℕ) (h : Header) (n : ℕ) → AllOctets s → reading s ≡ accepted h n → (out : List ℕ) → n ≤ length out → WrittenAs h (length (user_data s)) (take n s) out
  -- the calls: a record that `read` has filled, of any octets at all and whatever was in it, is clean; one that it has refused to fill is as it was
  pub read_clean : (s before : List ℕ) (r : OctetsAnswer) (after : List ℕ) → Reads s before r after → (read.told r).done ≡ true → Clean after
  pub read_refused : (s before : List ℕ) (r : OctetsAnswer) (after : List ℕ) → Reads s before r after → (read.told r).done ≡ false → after ≡ before
  -- what `write` wrote of any octets that are a valid record, with any user data of that count behind it, `read` hands back
  pub write_read : (octets : List ℕ) (count : ℕ) → ValidRecord (header_in octets) count → (out : List ℕ) → header_size (header_in octets) ≤ length out → (w : OctetsAnswer) (out' : List ℕ) → Writes octets count out w out' →
      (d : List ℕ) → length d ≡ count → (before : List ℕ) (r : OctetsAnswer) (after : List ℕ) → Reads (take (header_size (header_in octets)) out' ++ d) before r after → CameBack octets w r after
  -- and what `read` accepted, `write` writes again
  pub read_write : (s : List ℕ) → AllOctets s → (before : List ℕ) (r : OctetsAnswer) (after : List ℕ) → Reads s before r after → (read.told r).done ≡ true → (out : List ℕ) → (read.told r).octets ≤ length out →
      (w : OctetsAnswer) (out' : List ℕ) → Writes after (length (user_data s)) out w out' → WentOut s r out w out'
