-- `write_group::texts::write_optional_text` meets its contract. Assumes nothing.
use borrow.Author.Rules.{rules}
use mathlib.Core.Path.{sym, ◌∙◌}
use Rattle.codec.specs.Codec.{◌then_by◌, viewed, flag}
use Rattle.codec.proofs.Compose.{writing, present-size}
use Rattle.header.specs.Table.{optional_text}
use Rattle.text.specs.Texts.{text, no_text}
use Rattle.record_octets.specs.Record.{optional_text_in}
use Rattle.write_group.proofs.texts.write_optional_text.Goals as goal

pub write_mark-next-requires : goal.write_mark-next-requires
unfolding optional_text ◌then_by◌ viewed flag optional_text_in
write_mark-next-requires c = search rules

pub write_text-requires : goal.write_text-requires
unfolding optional_text ◌then_by◌ viewed flag optional_text_in
write_text-requires c =
    let e = present-size no_text (text c.args.most) (optional_text_in c.args.x.now).present (optional_text_in c.args.x.now).text (sym c.load_flag.ensures ∙ c.if-load_flag.true) in
    search rules

pub returns-then-load_flag : goal.returns-then-load_flag
unfolding optional_text optional_text_in
returns-then-load_flag c = let e = sym c.load_flag.ensures ∙ c.if-load_flag.true in search writing depth 12

pub returns : goal.returns
unfolding optional_text optional_text_in
returns c = let e = sym c.load_flag.ensures ∙ c.if-load_flag.false in search writing depth 12
