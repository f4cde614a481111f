-- `listing::listed_length` meets its contract. Assumes nothing.
use borrow.Author.Rules.{rules}
use Prim.Native.Nat.{ℕ}
use mathlib.Core.Path.{ap, sym, ◌∙◌}
use lib.ListN.{length}
use native.Mathlib.Omega.{arith}
use Rattle.table_octets.specs.Table.{table_in}
use Rattle.row_text.specs.Text.{count_line}
use Rattle.listing.proofs.Ways.{count-listed, none-listed}
use Rattle.listing.proofs.listed_length.Goals as goal

pub returns-then-number-eq0 : goal.returns-then-number-eq0
unfolding table_in
returns-then-number-eq0 c = c.count_line_length.ensures.0 ∙ ap (λ (n : ℕ). length (count_line n)) c.load_word-count.ensures ∙ ap length (sym (count-listed c.args.t.now c.args.number c.requires.0 (search rules)))

pub returns-then-count-number : goal.returns-then-count-number
unfolding table_in
returns-then-count-number c = ap length (sym (none-listed c.args.t.now c.args.number c.requires.0 (omega (arith, c.load_word-count.ensures))))

pub row_with-requires : goal.row_with-requires
unfolding table_in
row_with-requires c = (omega arith, omega (arith, c.load_word-count.ensures), c.requires.0, c.requires.1)

pub returns : goal.returns
returns c = c.row_length.ensures.0 ∙ ap length (sym c.row_with.ensures.0)
