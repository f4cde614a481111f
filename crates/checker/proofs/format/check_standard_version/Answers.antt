-- `checker::format::check_standard_version` meets its contract. Assumes nothing.
use mathlib.Core.Path.{sym, ◌∙◌}
use mathlib.Core.Bool.{true, false}
use Rattle.codec.specs.Refusals.{check_no}
use Rattle.codec.proofs.Compose.{had-check, lacked-check}
use Rattle.header.specs.Table.{standard_version}
use Rattle.record_octets.specs.Record.{optional_number_in}
use Rattle.checker.proofs.format.check_standard_version.Goals as goal

pub returns-then-load_flag : goal.returns-then-load_flag
unfolding standard_version check_no optional_number_in
returns-then-load_flag c = lacked-check _ _ _ 3 _ (sym c.lacks_standard_version.ensures ∙ c.if-lacks_standard_version.true) _ true (sym c.load_flag.ensures ∙ c.if-load_flag.true)

pub returns-then-lacks_standard_version : goal.returns-then-lacks_standard_version
unfolding standard_version check_no optional_number_in
returns-then-lacks_standard_version c = lacked-check _ _ _ 3 _ (sym c.lacks_standard_version.ensures ∙ c.if-lacks_standard_version.true) _ false (sym c.load_flag.ensures ∙ c.if-load_flag.false)

pub returns : goal.returns
unfolding standard_version
returns c = had-check _ _ _ 3 _ (sym c.lacks_standard_version.ensures ∙ c.if-lacks_standard_version.false) _ _ c.check_optional.ensures
