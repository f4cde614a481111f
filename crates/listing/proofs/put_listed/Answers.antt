-- `listing::put_listed` meets its contract. Assumes nothing.
use borrow.Author.Rules.{rules}
use mathlib.Core.Path.{ap, sym, ◌∙◌}
use lib.ListN.{length}
use native.Mathlib.Omega.{arith}
use Rattle.table_octets.specs.Table.{table_in}
use Rattle.row_text.specs.Text.{count_line}
use Rattle.row_text.proofs.Composing.{nothing-puts, same-puts}
use Rattle.listing.proofs.Ways.{count-listed, none-listed}
use Rattle.listing.proofs.put_listed.Goals as goal

pub put_count_line-requires : goal.put_count_line-requires
unfolding table_in
put_count_line-requires c = let e = ap length (count-listed c.args.t.now c.args.number c.requires.1 (search rules) ∙ ap count_line (sym c.load_word-count.ensures)) in omega (arith, c.requires.0)

pub returns-then-number-eq0 : goal.returns-then-number-eq0
unfolding table_in
returns-then-number-eq0 c = same-puts (count-listed c.args.t.now c.args.number c.requires.1 (search rules) ∙ ap count_line (sym c.load_word-count.ensures)) c.put_count_line.ensures

pub returns-then-count-number : goal.returns-then-count-number
unfolding table_in
returns-then-count-number c = same-puts (none-listed c.args.t.now c.args.number c.requires.1 (omega (arith, c.load_word-count.ensures))) (nothing-puts _ 0)

pub row_with-requires : goal.row_with-requires
unfolding table_in
row_with-requires c = (omega arith, omega (arith, c.load_word-count.ensures), c.requires.1, c.requires.2)

pub put_row-requires : goal.put_row-requires
put_row-requires c = let e = ap length c.row_with.ensures.0 in (omega (arith, c.requires.0), c.row_with.ensures.1)

pub returns : goal.returns
returns c = same-puts c.row_with.ensures.0 c.put_row.ensures
