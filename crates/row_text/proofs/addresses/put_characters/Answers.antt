-- `row_text::addresses::put_characters` meets its contract. The invariant: the characters so far are put. Assumes nothing.
use borrow.Author.Rules.{rules}
use mathlib.Core.Path.{sym, ap}
use Prim.Native.Nat.{◌<◌}
use native.Mathlib.Omega.{arith}
use lib.ListN.{length}
use Rattle.record_octets.specs.Record.{text_in}
use Rattle.row_text.specs.Text.{escaped}
use Rattle.row_text.proofs.Texts.{text-lines, used-characters, used-character}
use Rattle.row_text.proofs.Composing.{same-puts}
use Rattle.row_text.proofs.Lines.{putting-none, putting-room, putting-more, putting-all}
use Rattle.row_text.proofs.addresses.put_characters.Goals as goal

pub loop-c-init : goal.loop-c-init
loop-c-init c = putting-none escaped _ _ _ _

pub put_escaped-place-requires : goal.put_escaped-place-requires
unfolding text_in
put_escaped-place-requires c =
    let s = used-characters c.used-n.result c.args.x.now (search rules) (search rules) in
    let h : c.loop-c.c-index < c.used-n.result = omega arith in
    let e = ap length (text-lines (text_in c.args.x.now) c.used-n.result (search rules) (search rules)) in
    rw (used-character c.used-n.result c.args.x.now c.loop-c.c-index h) (putting-room _ _ _ _ _ _ _ _ c.loop-c.invariant 0 64 (search rules) (search rules) h (search rules))

pub loop-c-preserved : goal.loop-c-preserved
loop-c-preserved c =
    let s = used-characters c.used-n.result c.args.x.now (search rules) (search rules) in
    let h : c.loop-c.c-index < c.used-n.result = omega arith in
    putting-more _ _ _ _ _ _ _ _ c.loop-c.invariant 0 64 (search rules) (search rules) h _ _ (search rules) (same-puts (ap escaped (sym (used-character c.used-n.result c.args.x.now c.loop-c.c-index h))) c.put_escaped-place.ensures)

pub returns : goal.returns
unfolding text_in
returns c =
    let s = used-characters c.used-n.result c.args.x.now (search rules) (search rules) in
    same-puts (text-lines (text_in c.args.x.now) c.used-n.result (search rules) (search rules)) (putting-all _ _ _ _ _ _ _ _ c.loop-c.invariant (omega arith))
