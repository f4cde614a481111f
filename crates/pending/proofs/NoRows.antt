-- Octets that are all 0 hold a table without rows. Assumes nothing.
use Prim.Native.Nat.{ℕ}
use mathlib.Core.Path.{◌≡◌, refl, sym, ap, ◌∙◌}
use mathlib.Core.List.{List, [], ◌++◌}
use lib.ListN.{length-replicate, replicate-append-replicate}
use Rattle.cells.specs.Cells.{part, zeros, word_in}
use Rattle.cells.proofs.Parts.{part-last}
use Rattle.table.specs.Rows.{see}
use Rattle.table_octets.specs.Table.{table_in}

pub no-count : (table_in (zeros 50948)).count ≡ 0
unfolding table_in word_in
no-count =
    let e : zeros 50948 ≡ zeros 50944 ++ zeros 4 = sym (replicate-append-replicate 50944 4 0) in
    ap (λ (s : List ℕ). word_in (part 50944 4 s)) e ∙ ap word_in (part-last (zeros 50944) (zeros 4) 50944 4 (length-replicate {A = ℕ} 50944 0) (length-replicate {A = ℕ} 4 0))

pub no_rows : (s : List ℕ) → (table_in s).count ≡ 0 → see (table_in s) ≡ []
unfolding see
no_rows s e = rw e
