-- A legal list in an array, written entry by entry: every one but the last with the recurrence bit 1. For any entry. Assumes nothing.
use Prim.Native.Nat.{ℕ, suc, ◌+◌, ◌<◌, ◌≤◌}
use mathlib.Core.Path.{◌≡◌}
use mathlib.Core.Bool.{true, false}
use mathlib.Core.List.{List}
use lib.ListN.{length, take, get_or, length-take}
use lib.Seq.{get_or-take}
use native.Mathlib.Omega.{arith}
use Rattle.codec.specs.Codec.{Codec, flag, ◌&◌}
use Rattle.codec.specs.Lists.{listed, cells}
use Rattle.codec.specs.Writes.{Writes}
use Rattle.codec.proofs.ListEnds.{whole-array, count_most, count-some}
use Rattle.codec.proofs.ListLoops.{Writing, writing-none, writing_more, writing-last, room-more, room-last, cells-writes, cells-size}

module _ {A : Type 0} (z : A) (c : Codec A) (room left : ℕ) (l : List A) (k : ℕ) (legal : (cells z room (suc left) 5 (listed z c left)).check (l, k) ≡ 0) (fits : suc left ≤ room) where
  used : length (take k l) ≡ k
  used = rw length-take (omega (arith, whole-array z c room left l k legal, count_most z c room left l k legal))

  pub entries_none : (s : List ℕ) (p : ℕ) → Writing z c left (take k l) s p s 0 p
  entries_none s p = writing-none z c left (take k l) s p (omega (arith, used, count-some z c room left l k legal)) (omega (arith, used, count_most z c room left l k legal))

  module _ (s₀ : List ℕ) (p : ℕ) (s : List ℕ) (n q : ℕ) (w : Writing z c left (take k l) s₀ p s n q) where
    -- there is a next entry, in the array
    pub entry-there : n < k
    entry-there = omega (arith, w.small, used)

    module _ (d : A) where
      same : get_or (take k l) n d ≡ get_or l n d
      same = get_or-take k l n d entry-there

      -- room for an entry with its recurrence bit
      pub entry-room : n + 1 < k → (limit : ℕ) → p + (cells z room (suc left) 5 (listed z c left)).size (l, k) ≤ limit → q + (1 + c.size (get_or l n d)) ≤ limit
      entry-room h limit m =
          omega (arith, rw same at (room-more z c left (take k l) s₀ p s n q w d (omega (arith, used))), cells-size z c room (suc left) 5 left (l, k))

      pub last-room : k ≤ n + 1 → (limit : ℕ) → p + (cells z room (suc left) 5 (listed z c left)).size (l, k) ≤ limit → q + (1 + c.size (get_or l n d)) ≤ limit
      last-room h limit m =
          omega (arith, rw same at (room-last z c left (take k l) s₀ p s n q w d (omega (arith, used))), cells-size z c room (suc left) 5 left (l, k))

      pub entries-more : (t : List ℕ) (r : ℕ) → n + 1 < k → length t ≡ length s → Writes (flag & c) (true, get_or l n d) s t q r → Writing z c left (take k l) s₀ p t (n + 1) r
      entries-more t r h e f = writing_more z c left (take k l) s₀ p s n q w d t r (omega (arith, used)) e (rw same f)

      pub entries-last : (t : List ℕ) (r : ℕ) → k ≤ n + 1 → Writes (flag & c) (false, get_or l n d) s t q r → Writes (cells z room (suc left) 5 (listed z c left)) (l, k) s₀ t p r
      entries-last t r h f = cells-writes z c room (suc left) 5 left (l, k) s₀ t p r (writing-last z c left (take k l) s₀ p s n q w d t r (omega (arith, used)) (rw same f))
