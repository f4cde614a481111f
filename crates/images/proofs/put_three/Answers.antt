-- `images::put_three` meets its contract. Assumes nothing.
use borrow.Author.Rules.{rules}
use Rattle.cells.specs.Cells.{word_octets}
use Rattle.cells.proofs.Stores.{filled_none, filled_next, filled-all}
use native.Mathlib.Omega.{arith}
use mathlib.Core.Path.{ap, ◌∙◌}
use Rattle.images.proofs.put_three.Goals as goal

pub returns : goal.returns
returns c = (filled-all (filled_next 4 _ _ (filled_next 4 _ _ (filled_next 4 _ _ (filled_none 12 c.args.x.now c.requires.0) (omega arith) c.x-1.given.0 (c.store_word.ensures ∙ ap word_octets c.load_word-first.ensures)) (omega arith) c.x-2-1.given.0 (c.store_word-2.ensures ∙ ap word_octets c.load_word-second.ensures)) (omega arith) c.x-3-1.given.0 (c.store_word-3.ensures ∙ ap word_octets c.load_word-third.ensures)), search rules, search rules, search rules)
