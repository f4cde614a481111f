-- `row_text::addresses::characters_length` meets its contract. The invariant: the characters so far are measured. Assumes nothing.
use borrow.Author.Rules.{rules}
use mathlib.Core.Path.{ap, ◌∙◌}
use Prim.Native.Nat.{ℕ, ◌<◌}
use native.Mathlib.Omega.{arith}
use lib.ListN.{length}
use Rattle.record_octets.specs.Record.{text_in}
use Rattle.row_text.specs.Text.{escaped}
use Rattle.row_text.proofs.Texts.{text-lines, used-characters, used-character}
use Rattle.row_text.proofs.Lines.{measured-none, measured-more, measured-all}
use Rattle.row_text.proofs.addresses.characters_length.Goals as goal

pub loop-c-init : goal.loop-c-init
loop-c-init c = measured-none escaped _ _ 3

pub overflow_add-size : goal.overflow_add-size
overflow_add-size c =
    let s = used-characters c.used-n.result c.args.x.now (search rules) (search rules) in
    let m = c.loop-c.invariant.small in
    record { fits = omega arith }

pub loop-c-preserved : goal.loop-c-preserved
loop-c-preserved c =
    let s = used-characters c.used-n.result c.args.x.now (search rules) (search rules) in
    let h : c.loop-c.c-index < c.used-n.result = omega arith in
    measured-more _ _ _ _ _ _ c.loop-c.invariant 0 64 (search rules) (search rules) h _ (c.escaped_length.ensures.0 ∙ ap (λ (k : ℕ). length (escaped k)) (used-character c.used-n.result c.args.x.now c.loop-c.c-index h)) c.escaped_length.ensures.1

pub returns : goal.returns
unfolding text_in
returns c =
    let s = used-characters c.used-n.result c.args.x.now (search rules) (search rules) in
    let e = ap length (text-lines (text_in c.args.x.now) c.used-n.result (search rules) (search rules)) in
    let m = measured-all _ _ _ _ _ _ c.loop-c.invariant (omega arith) in
    search rules
