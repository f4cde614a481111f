-- The blocks looked at once, one after the other, for their fields, the rules, the sizes and their bits. Assumes nothing.
use Prim.Native.Nat.{ℕ, ◌+◌, ◌*◌, ◌<◌, ◌≤◌}
use mathlib.Core.Path.{◌≡◌, refl, sym, ◌∙◌}
use mathlib.Core.Bool.{true}
use mathlib.Core.List.{List}
use lib.ListN.{length, get_or}
use lib.Dec.{lit≤}
use native.Mathlib.Omega.{arith}
use Rattle.codec.specs.Codec.{first, viewed}
use Rattle.codec.specs.Lists.{listed, cells}
use Rattle.codec.specs.Refusals.{check_no, fault_no, finding_says}
use Rattle.codec.specs.declared.BlockFault.{BlockFault}
use Rattle.codec.specs.declared.Fault.{Fault}
use Rattle.codec.proofs.Told.{fault-positive, first-refusal}
use Rattle.std.specs.Prelude.{Result, Ok, Err, ⊤}
use Rattle.codec.proofs.ListChecks.{Checking, checking-none, checking-more, checking-all}
use Rattle.codec.proofs.ListEnds.{Ending, ending-none, ending-more, ending-all}
use Rattle.header.specs.Sizes.{judgement}
use Rattle.header.specs.Table.{block, blocks}
use Rattle.header.specs.Zero.{no_block}
use Rattle.header.specs.declared.Block.{Block}
use Rattle.header.specs.declared.Blocks.{Blocks}
use Rattle.header.specs.declared.Setting.{Setting}
use Rattle.header.proofs.Bounds.{block-bounded}
use Rattle.rules.specs.Sees.{alone_of, Sees, Unseen, concluded}
use Rattle.rules.specs.declared.seen.Seen.{Seen}
use Rattle.rules.proofs.Looks.{Looked, looked-none, looked-more, looked-all}

-- a check that says nothing
pub fine-check : {A : Type 0} (x : A) (n : ℕ) → check_no (Ok x) ≡ n → n ≡ 0
unfolding check_no
fine-check x n e = sym e

-- a field's fault is the first of all, whatever comes behind it
pub first-faulty : (A B : Type 0) (e : Fault) (f g : ℕ) → check_no {A = A} (Err e) ≡ f → check_no {A = B} (Err e) ≡ first f g
unfolding check_no
first-faulty A B e f g h = rw (← h) (first-refusal (fault_no e) g (fault-positive e))

-- the blocks before i are legal; what they show of the rules and the sizes, and where they end
pub record Surveyed (version : ℕ) (x : Setting) (alone octets at n : ℕ) (l : List Block) (seen : Seen) (end i : ℕ) : Type 0 where
  pub fields : Checking no_block (block version) 16 15 l n i
  pub looked : Looked x alone octets n l seen i
  pub place : (cells no_block 16 16 5 (listed no_block (block version) 15)).check (l, n) ≡ 0 → Ending no_block (block version) 16 15 l n at i end
  pub short : end ≤ at + i * 3316

module _ (version : ℕ) (x : Setting) (alone octets at n : ℕ) (l : List Block) (room : at + 53056 ≤ 524056) (whole : length l ≡ 16) (most : n ≤ 16) where
  pub surveyed-none : 0 < n → (seen : Seen) → Unseen x octets seen → Surveyed version x alone octets at n l seen at 0
  surveyed-none some seen u =
      record {
        fields = checking-none no_block (block version) 16 15 l n whole some most (lit≤ tt);
        looked = looked-none x alone octets n l whole most seen u;
        place = λ legal. ending-none no_block (block version) 16 15 l n legal (lit≤ tt) at;
        short = omega arith;
      }

  module _ (seen : Seen) (end i : ℕ) (s : Surveyed version x alone octets at n l seen end i) where
    -- a legal block has a place in a datagram
    pub surveyed-room : (b : Block) → i < n → (block version).check b ≡ 0 → end + (1 + (block version).size b) ≤ 524056
    surveyed-room b k e = omega (arith, room, most, s.short, (block-bounded version).most b e)

    module _ (d : Block) (k : i < n) (told : check_no {A = ⊤} (Ok tt) ≡ (block version).check (get_or l i d)) where
      pub surveyed-more : (seen' : Seen) (end' : ℕ) → Sees x alone (i + 1) (get_or l i d) seen seen' → end' ≡ (end + 1) + (block version).size (get_or l i d) → Surveyed version x alone octets at n l seen' end' (i + 1)
      surveyed-more seen' end' es ee =
          record {
            fields = checking-more no_block (block version) 16 15 l n whole i s.fields d k most (Ok tt) told tt refl;
            looked = looked-more x alone octets n l whole most seen seen' i s.looked d k es;
            place = λ legal. ending-more no_block (block version) 16 15 l n legal (lit≤ tt) at i end (s.place legal) d k (end + 1) end' refl ee;
            short = omega (arith, s.short, (block-bounded version).most (get_or l i d) (fine-check {A = ⊤} tt _ told));
          }

-- all blocks looked at
module _ (version : ℕ) (x : Setting) (g : Blocks) (alone octets at : ℕ) (whole : length g.list ≡ 16) (most : g.count ≤ 16) (owner : alone ≡ alone_of g.count octets) (seen : Seen) (end i : ℕ) (s : Surveyed version x alone octets at g.count g.list seen end i) (past : g.count ≤ i) where
  pub surveyed-all : {S : Type 0} (v : S) (found : Result ⊤ BlockFault) (end' : ℕ) → finding_says found ≡ concluded true seen → end' ≡ end → (check_no (Ok v) ≡ (blocks version).check g) × (finding_says found ≡ judgement x true octets g) × (end' ≡ at + (blocks version).size g)
  unfolding blocks viewed check_no
  surveyed-all v found end' ef ee =
      let legal = checking-all no_block (block version) 16 15 g.list g.count whole i s.fields past in (
        legal,
        ef ∙ looked-all x g alone octets g.count whole (omega arith) owner seen i s.looked past true,
        omega (arith, ee, ending-all no_block (block version) 16 15 g.list g.count (sym legal) (lit≤ tt) at i end (s.place (sym legal)) past),
      )
