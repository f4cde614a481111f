-- `checker::texts::check_optional_text` meets its contract. Assumes nothing.
use mathlib.Core.Path.{sym, ◌∙◌}
use Rattle.codec.specs.Refusals.{check_no}
use Rattle.codec.proofs.Compose.{checking}
use Rattle.header.specs.Table.{optional_text}
use Rattle.record_octets.specs.Record.{optional_text_in}
use Rattle.checker.proofs.texts.check_optional_text.Goals as goal

pub returns-then-load_flag : goal.returns-then-load_flag
unfolding optional_text check_no optional_text_in
returns-then-load_flag c = let e = sym c.load_flag.ensures ∙ c.if-load_flag.true in search checking depth 12

pub returns : goal.returns
unfolding optional_text check_no optional_text_in
returns c = let e = sym c.load_flag.ensures ∙ c.if-load_flag.false in search checking depth 12
