-- `pending::empty` meets its contract. Assumes nothing.
use borrow.Author.Rules.{rules}
use Prim.Native.Nat.{ℕ}
use mathlib.Core.Path.{◌≡◌, ap, ◌∙◌}
use mathlib.Core.List.{List}
use lib.ListN.{length}
use Rattle.cells.specs.Cells.{zeros}
use Rattle.table_octets.specs.Table.{table_in}
use Rattle.pending.proofs.NoRows.{no-count, no_rows}
use Rattle.pending.proofs.empty.Goals as goal

pub returns : goal.returns
returns c =
    let l : length c.args.t.now ≡ 50948 = search rules in
    let e : c.clear.new.b ≡ zeros 50948 = c.clear.ensures ∙ ap zeros l in
    let n : (table_in c.clear.new.b).count ≡ 0 = ap (λ (s : List ℕ). (table_in s).count) e ∙ no-count in
    (e, no_rows c.clear.new.b n, n)
