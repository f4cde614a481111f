-- `row_text::rows::load_extension` meets its contract. Assumes nothing.
use Rattle.record_octets.specs.Record.{stamp_in}
use Rattle.table_octets.specs.Table.{key_in}
use Rattle.row_text.proofs.rows.load_extension.Goals as goal

pub returns : goal.returns
unfolding key_in stamp_in
returns c = c.load_optional.ensures
