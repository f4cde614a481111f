-- `recipients::new_row` meets its contract. Assumes nothing.
use borrow.Author.Rules.{rules}
use Rattle.cells.proofs.Copying.{copied-whole}
use Rattle.cells.specs.Cells.{word_octets}
use Rattle.cells.proofs.Stores.{filled_none, filled_next, filled-cleared, filled-all}
use lib.ListN.{take, drop}
use native.Mathlib.Omega.{arith}
use mathlib.Core.Path.{sym, ap, ◌∙◌}
use Rattle.recipients.proofs.new_row.Goals as goal

pub returns : goal.returns
returns c = let h = c.fill-n.ensures.1 in let few = c.fill-n.ensures.0 in (filled-all (filled_next 4 _ _ (filled_next 1472 _ _ (filled-cleared 1 _ (filled_next 3 _ _ (filled_next 112 _ _ (filled_none 1592 c.args.r.now c.requires.0) (omega arith) c.r-1.given.0 (c.copy.ensures ∙ copied-whole (take 112 (drop 0 c.args.r.now)) c.args.key.now 112 (search rules) c.requires.3)) (omega arith) c.r-2-1.given.0 c.put_requests.ensures) (omega arith) c.r-3-1.given.0 c.clear.ensures) (omega arith) c.r-4-1.given.0 h.is) (omega arith) c.r-5-1.given.0 (c.store_word.ensures ∙ ap word_octets (sym h.count))), omega (arith, few, h.count), h.typed)
