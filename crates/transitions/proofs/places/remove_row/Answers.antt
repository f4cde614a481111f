-- `transitions::places::remove_row` meets its contract. Assumes nothing.
use borrow.Author.Rules.{rules}
use Prim.Native.Nat.{ℕ, ◌+◌, ◌-◌, ◌*◌}
use mathlib.Core.Path.{◌≡◌, ap, ◌∙◌}
use lib.ListN.{length}
use native.Mathlib.Omega.{arith}
use Rattle.transitions.proofs.Replaced.{taken-out, taken-out-long}
use Rattle.transitions.proofs.places.remove_row.Goals as goal

lent : (n : ℕ) → n + 1592 - n ≡ 1592
lent n = omega arith

pub overflow_sub-count : goal.overflow_sub-count
overflow_sub-count c = let h = c.requires.1 in search rules

pub shape_of-t : goal.shape_of-t
shape_of-t c = ap (length {A = ℕ}) (taken-out c.args.t.now c.move_down.new.t c.clear.new.b c.store_word.new.b c.args.count c.args.at _ c.requires.0 c.requires.1 c.requires.2 (lent ((c.args.count - 1) * 1592)) c.move_down.ensures c.clear.ensures c.store_word.ensures) ∙ taken-out-long c.args.t.now c.args.count c.args.at c.requires.0 c.requires.1 c.requires.2

pub returns : goal.returns
returns c = taken-out c.args.t.now c.move_down.new.t c.clear.new.b c.store_word.new.b c.args.count c.args.at _ c.requires.0 c.requires.1 c.requires.2 (lent ((c.args.count - 1) * 1592)) c.move_down.ensures c.clear.ensures c.store_word.ensures
