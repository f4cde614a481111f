-- `ends::texts::end_optional_text` meets its contract. Assumes nothing.
use borrow.Author.Rules.{rules}
use mathlib.Core.Path.{sym, ◌∙◌}
use Rattle.codec.specs.Codec.{◌then_by◌, viewed, flag}
use Rattle.codec.proofs.Compose.{present-size, absent-size}
use Rattle.header.specs.Table.{optional_text}
use Rattle.text.specs.Texts.{text, no_text}
use Rattle.record_octets.specs.Record.{optional_text_in}
use Rattle.ends.proofs.texts.end_optional_text.Goals as goal

pub end_flag-behind-requires : goal.end_flag-behind-requires
unfolding optional_text ◌then_by◌ viewed flag optional_text_in
end_flag-behind-requires c = search rules

pub end_text-requires : goal.end_text-requires
unfolding optional_text ◌then_by◌ viewed flag optional_text_in
end_text-requires c = let e = present-size no_text (text c.args.most) (optional_text_in c.args.x.now).present (optional_text_in c.args.x.now).text (sym c.load_flag.ensures ∙ c.if-load_flag.true) in search rules

pub returns-then-load_flag : goal.returns-then-load_flag
unfolding optional_text ◌then_by◌ viewed flag optional_text_in
returns-then-load_flag c = let e = present-size no_text (text c.args.most) (optional_text_in c.args.x.now).present (optional_text_in c.args.x.now).text (sym c.load_flag.ensures ∙ c.if-load_flag.true) in search rules

pub returns : goal.returns
unfolding optional_text ◌then_by◌ viewed flag optional_text_in
returns c = let e = absent-size no_text (text c.args.most) (optional_text_in c.args.x.now).present (optional_text_in c.args.x.now).text (sym c.load_flag.ensures ∙ c.if-load_flag.false) in search rules
