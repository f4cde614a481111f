-- `leaves::texts::write_characters` meets its contract. The invariant: what is written behind the characters so far completes the text. Assumes nothing.
use borrow.Author.Rules.{rules}
use mathlib.Core.Path.{◌≡◌}
use native.Mathlib.Omega.{arith}
use lib.ListN.{length}
use Rattle.text.proofs.Writing.{written_none, written-more, written-mark, written-full, text-writes, text-size}
use Rattle.leaves.proofs.texts.write_characters.Goals as goal

pub loop-i-init : goal.loop-i-init
loop-i-init c = written_none _ _ _ _ _

pub write_number-requires : goal.write_number-requires
write_number-requires c = let a = c.args in
    let l : length a.chars.now ≡ 64 = c.requires.2 in
    let e = text-size a.most (record { chars = a.chars.now; len = a.count }) in
    (omega arith, omega arith)

pub returns-then-len-i : goal.returns-then-len-i
returns-then-len-i c = text-writes _ _ _ _ _ _
    (written-mark _ _ _ _ _ _ _ _ c.loop-i.invariant c.requires.2 (omega arith) _ _ (omega arith) (omega arith) c.write_number.ensures)

pub write_number-place-requires : goal.write_number-place-requires
write_number-place-requires c = let a = c.args in
    let l : length a.chars.now ≡ 64 = c.requires.2 in
    let e = text-size a.most (record { chars = a.chars.now; len = a.count }) in
    (omega arith, omega arith)

pub loop-i-preserved : goal.loop-i-preserved
loop-i-preserved c = written-more _ _ _ _ _ _ _ _ c.loop-i.invariant c.requires.2 (omega arith) _ _ (omega arith) (omega arith) (search rules) c.write_number-place.ensures

pub returns : goal.returns
returns c = text-writes _ _ _ _ _ _ (written-full _ _ _ _ _ _ _ _ c.loop-i.invariant c.requires.2 (omega arith) (omega arith))
