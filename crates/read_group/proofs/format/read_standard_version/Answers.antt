-- `read_group::format::read_standard_version` meets its contract. Assumes nothing.
use mathlib.Core.Path.{sym, ◌∙◌}
use lib.Dec.{lit<}
use Rattle.cells.specs.Cells.{word_octets, flag_octets, mark_octets}
use Rattle.codec.proofs.Compose.{had-read, lacked-read}
use Rattle.header.specs.Table.{standard_version}
use Rattle.header.specs.Zero.{no_number}
use Rattle.into.proofs.Telling.{into-got}
use Rattle.record_octets.specs.Record.{optional_number_octets}
use Rattle.read_group.proofs.format.read_standard_version.Goals as goal

pub returns-then-lacking : goal.returns-then-lacking
unfolding standard_version no_number optional_number_octets word_octets flag_octets mark_octets
returns-then-lacking c = into-got no_number _ (lacked-read _ _ _ 3 _ (sym c.lacks_standard_version-lacking.ensures ∙ c.if-lacking.true) _ _) c.requires.0 (record { value = lit< tt })

pub returns : goal.returns
unfolding standard_version
returns c =
    let r = c.read_optional.ensures in
    record { value = r.value; told = had-read _ _ _ 3 _ (sym c.lacks_standard_version-lacking.ensures ∙ c.if-lacking.false) _ _ _ _ r.told; held = r.held }
