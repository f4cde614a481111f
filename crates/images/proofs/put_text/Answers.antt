-- `images::put_text` meets its contract. Assumes nothing.
use borrow.Author.Rules.{rules}
use Rattle.images.proofs.Copies.{text-put}
use Rattle.record_octets.specs.Record.{text_in, text_octets}
use Prim.Native.Nat.{ℕ, min}
use Rattle.cells.proofs.Stores.{filled_none, filled_next, filled-all}
use native.Mathlib.Omega.{arith}
use mathlib.Core.Path.{ap, ◌∙◌}
use Rattle.images.proofs.put_text.Goals as goal

pub returns : goal.returns
unfolding text_in text_octets
returns c = filled-all (filled_next 4 _ _ (filled_next 64 _ _ (filled_none 68 c.args.x.now c.requires.0) (omega arith) c.x-1.given.0 c.put_characters.ensures) (omega arith) c.x-2-1.given.0 c.store_word.ensures) ∙ text-put _ _ _ (search rules) (c.used-n.ensures.0 ∙ ap (λ (n : ℕ). min n 64) c.load_word-len.ensures)
