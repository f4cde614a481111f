-- `leaves::texts::end_text` meets its contract. Assumes nothing.
use borrow.Author.Rules.{rules}
use mathlib.Core.Path.{◌≡◌}
use native.Mathlib.Omega.{arith}
use lib.ListN.{length}
use Rattle.cells.specs.Cells.{part}
use Rattle.cells.proofs.Replaced.{part_length}
use Rattle.record_octets.specs.Record.{text_in}
use Rattle.text.proofs.Writing.{text-size}
use Rattle.leaves.proofs.texts.end_text.Goals as goal

pub overflow_add-result : goal.overflow_add-result
unfolding text_in
overflow_add-result c = let a = c.args in let l : length (part 0 64 a.x.now) ≡ 64 = part_length 0 64 a.x.now (omega (arith, c.requires.2)) in let e = text-size a.most (text_in a.x.now) in let k = c.load_word-len.ensures in search rules

pub overflow_add-result-then-len-most : goal.overflow_add-result-then-len-most
unfolding text_in
overflow_add-result-then-len-most c = let a = c.args in let l : length (part 0 64 a.x.now) ≡ 64 = part_length 0 64 a.x.now (omega (arith, c.requires.2)) in let e = text-size a.most (text_in a.x.now) in let k = c.load_word-len.ensures in search rules

pub overflow_add-result-2 : goal.overflow_add-result-2
unfolding text_in
overflow_add-result-2 c = let a = c.args in let l : length (part 0 64 a.x.now) ≡ 64 = part_length 0 64 a.x.now (omega (arith, c.requires.2)) in let e = text-size a.most (text_in a.x.now) in let k = c.load_word-len.ensures in search rules

pub returns-then-len-most : goal.returns-then-len-most
unfolding text_in
returns-then-len-most c = let a = c.args in let l : length (part 0 64 a.x.now) ≡ 64 = part_length 0 64 a.x.now (omega (arith, c.requires.2)) in let e = text-size a.most (text_in a.x.now) in let k = c.load_word-len.ensures in search rules

pub returns : goal.returns
unfolding text_in
returns c = let a = c.args in let l : length (part 0 64 a.x.now) ≡ 64 = part_length 0 64 a.x.now (omega (arith, c.requires.2)) in let e = text-size a.most (text_in a.x.now) in let k = c.load_word-len.ensures in search rules
