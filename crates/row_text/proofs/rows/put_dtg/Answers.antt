-- `row_text::rows::put_dtg` meets its contract. Assumes nothing.
use mathlib.Core.Path.{ap}
use mathlib.Core.List.{◌∷◌}
use Rattle.table_octets.specs.Table.{key_in}
use Rattle.row_text.proofs.Composing.{then-puts, octet-puts, same-puts}
use Rattle.row_text.proofs.Texts.{dtg-text}
use Rattle.row_text.proofs.rows.put_dtg.Goals as goal

pub returns : goal.returns
unfolding key_in
returns c = same-puts (ap (λ t. 32 ∷ t) (dtg-text (key_in c.args.k.now) _ c.load_stamp.ensures)) (octet-puts c.put_octet-at.ensures (then-puts c.put_three-at.ensures (octet-puts c.put_octet-at-2.ensures c.put_three.ensures)))
