-- A recipient changed in the octets of a row, and a row in those of a table: the others stay. Assumes nothing.
use Prim.Native.Nat.{ℕ, ◌+◌, ◌-◌, ◌*◌, ◌<◌, ◌≤◌}
use mathlib.Core.Path.{◌≡◌, refl, sym, ap, ◌∙◌}
use mathlib.Core.List.{List}
use native.Mathlib.Omega.{arith}
use lib.ListN.{length, take, drop, set, length-drop}
use lib.Seq.{paste, length-paste}
use Rattle.cells.specs.Cells.{part, replaced, zeros, many, word_in, word_octets, inserted_at, removed_at}
use Rattle.cells.proofs.Inserted.{inserted-is, inserted-long, removed-is, removed-long}
use Rattle.cells.proofs.Replaced.{part_length, part-of-replaced, replaced-length, replaced-part, replaced-before, replaced-behind}
use Rattle.cells.proofs.Parts.{word-long, word-back}
use Rattle.cells.proofs.Lists.{many-count}
use Rattle.cells.proofs.Moved.{many-of-take, many-replaced}
use Rattle.record_octets.specs.Record.{requests_in}
use Rattle.table.specs.declared.Row.{Row}
use Rattle.table_octets.specs.Table.{key_in, recipient_in, row_in, table_in}
use Rattle.transitions.specs.Octets.{counted}

pub row-replaced : (at : ℕ) (s ys : List ℕ) → at < 16 → length s ≡ 1592 → length ys ≡ 92
    → row_in (replaced (116 + at * 92) 92 s ys) ≡ record { key = (row_in s).key; asked = (row_in s).asked; recipients = set (row_in s).recipients at (recipient_in ys); count = (row_in s).count }
unfolding row_in
row-replaced at s ys h l g =
    let k : part 0 112 (replaced (116 + at * 92) 92 s ys) ≡ part 0 112 s = replaced-before (116 + at * 92) 92 0 112 s ys (omega arith) (omega arith) in
    let q : part 112 3 (replaced (116 + at * 92) 92 s ys) ≡ part 112 3 s = replaced-before (116 + at * 92) 92 112 3 s ys (omega arith) (omega arith) in
    let c : part 1588 4 (replaced (116 + at * 92) 92 s ys) ≡ part 1588 4 s = replaced-behind (116 + at * 92) 92 1588 4 s ys (omega arith) g (omega arith) in
    let r : many recipient_in 92 16 (part 116 1472 (replaced (116 + at * 92) 92 s ys)) ≡ set (many recipient_in 92 16 (part 116 1472 s)) at (recipient_in ys) =
    ap (many recipient_in 92 16) (part-of-replaced 116 1472 (at * 92) 92 s ys (omega arith) (omega arith) g)
    ∙ many-replaced recipient_in 92 16 at (part 116 1472 s) ys h (omega (arith, part_length 116 1472 s (omega arith))) g in
    λ i. record { key = key_in (k i); asked = requests_in (q i); recipients = r i; count = word_in (c i) }

pub table-replaced : (at : ℕ) (s ys : List ℕ) → at < 32 → length s ≡ 50948 → length ys ≡ 1592
    → table_in (replaced (at * 1592) 1592 s ys) ≡ record { rows = set (table_in s).rows at (row_in ys); count = (table_in s).count }
unfolding table_in
table-replaced at s ys h l g =
    let c : part 50944 4 (replaced (at * 1592) 1592 s ys) ≡ part 50944 4 s = replaced-behind (at * 1592) 1592 50944 4 s ys (omega arith) g (omega arith) in
    let r : many row_in 1592 32 (part 0 50944 (replaced (at * 1592) 1592 s ys)) ≡ set (many row_in 1592 32 (part 0 50944 s)) at (row_in ys) =
    many-of-take row_in 1592 32 (replaced (at * 1592) 1592 s ys) ∙ many-replaced row_in 1592 32 at s ys h (omega arith) g
    ∙ ap (λ (m : List Row). set m at (row_in ys)) (sym (many-of-take row_in 1592 32 s)) in
    λ i. record { rows = r i; count = word_in (c i) }

-- ---- the rows behind a change of them all

-- the octets hold these rows and this count
pub rows_are : (s : List ℕ) → (table_in s).rows ≡ many row_in 1592 32 s
unfolding table_in
rows_are s = many-of-take row_in 1592 32 s

pub rows-32 : (s : List ℕ) → length (table_in s).rows ≡ 32
rows-32 s = ap length (rows_are s) ∙ many-count row_in 1592 32 s

pub counted-count : (n : ℕ) (s : List ℕ) → length s ≡ 50948 → n < 4294967296 → (table_in (counted n s)).count ≡ n
unfolding table_in
counted-count n s l h = ap word_in (replaced-part 50944 4 s (word_octets n) (omega arith) (word-long n)) ∙ word-back n h

pub counted-rows : (n : ℕ) (s : List ℕ) → length s ≡ 50948 → (table_in (counted n s)).rows ≡ many row_in 1592 32 s
unfolding table_in
counted-rows n s l = ap (many row_in 1592 32) (replaced-before 50944 4 0 50944 s (word_octets n) (omega arith) (omega arith)) ∙ many-of-take row_in 1592 32 s

-- ---- what the code leaves where rows moved; k: the octets that were lent of the last place

pub taken-out : (s u y z : List ℕ) (n at k : ℕ) → length s ≡ 50948 → at < n → n ≤ 32 → k ≡ 1592
    → u ≡ paste s (at * 1592) (drop (at * 1592 + 1592) s) ((n - 1) * 1592 - at * 1592)
    → y ≡ zeros (length (take k (drop ((n - 1) * 1592) u))) → z ≡ word_octets (n - 1)
    → replaced 50944 4 (replaced ((n - 1) * 1592) k u y) z ≡ counted (n - 1) (removed_at 1592 n at s)
taken-out s u y z n at k l h g e p q r =
    let d : length (drop (at * 1592 + 1592) s) ≡ length s - (at * 1592 + 1592) = length-drop (at * 1592 + 1592) s in
    let ul : length u ≡ 50948 = ap length p ∙ length-paste s (at * 1592) (drop (at * 1592 + 1592) s) ((n - 1) * 1592 - at * 1592) (omega arith) (omega arith) ∙ l in
    let c : length (take k (drop ((n - 1) * 1592) u)) ≡ 1592 = ap (λ (j : ℕ). length (take j (drop ((n - 1) * 1592) u))) e ∙ part_length ((n - 1) * 1592) 1592 u (omega arith) in
    let m : replaced ((n - 1) * 1592) k u y ≡ removed_at 1592 n at s =
    ap (replaced ((n - 1) * 1592) k u) (q ∙ ap zeros c) ∙ ap (λ (v : List ℕ). replaced ((n - 1) * 1592) k v (zeros 1592)) p
    ∙ removed-is 1592 n at (at * 1592) ((n - 1) * 1592) k s refl (omega arith) e h (omega arith) in
    λ i. replaced 50944 4 (m i) (r i)

pub taken-out-long : (s : List ℕ) (n at : ℕ) → length s ≡ 50948 → at < n → n ≤ 32 → length (counted (n - 1) (removed_at 1592 n at s)) ≡ length s
taken-out-long s n at l h g =
    let r : length (removed_at 1592 n at s) ≡ length s = removed-long 1592 n at s h (omega arith) in
    replaced-length 50944 4 (removed_at 1592 n at s) (word_octets (n - 1)) (omega arith) (word-long (n - 1)) ∙ r

pub put_in : (s u y z : List ℕ) (n at k : ℕ) → length s ≡ 50948 → at ≤ n → n < 32 → k ≡ 1592
    → u ≡ paste s (at * 1592 + 1592) (drop (at * 1592) s) (n * 1592 - at * 1592) → z ≡ word_octets (n + 1)
    → replaced 50944 4 (replaced (at * 1592) k u y) z ≡ counted (n + 1) (inserted_at 1592 n at y s)
put_in s u y z n at k l h g e p r =
    let m : replaced (at * 1592) k u y ≡ inserted_at 1592 n at y s =
    ap (λ (v : List ℕ). replaced (at * 1592) k v y) p ∙ inserted-is 1592 n at (at * 1592) (n * 1592) k s y refl refl e h (omega arith) in
    λ i. replaced 50944 4 (m i) (r i)

pub put-in-long : (s y : List ℕ) (n at : ℕ) → length s ≡ 50948 → at ≤ n → n < 32 → length y ≡ 1592 → length (counted (n + 1) (inserted_at 1592 n at y s)) ≡ length s
put-in-long s y n at l h g e =
    let r : length (inserted_at 1592 n at y s) ≡ length s = inserted-long 1592 n at y s h (omega arith) e in
    replaced-length 50944 4 (inserted_at 1592 n at y s) (word_octets (n + 1)) (omega arith) (word-long (n + 1)) ∙ r
