-- `images::put_name` meets its contract. Assumes nothing.
use Rattle.table_octets.specs.Image.{address_image}
use Rattle.record_octets.specs.Record.{optional_text_in, optional_text_octets}
use Rattle.cells.proofs.Stores.{filled_none, filled_next, filled-all}
use native.Mathlib.Omega.{arith}
use Rattle.images.proofs.put_name.Goals as goal

pub returns : goal.returns
unfolding optional_text_in optional_text_octets address_image
returns c = filled-all (filled_next 68 _ _ (filled_next 4 _ _ (filled_none 72 c.args.x.now c.requires.0) (omega arith) c.x-1.given.0 c.store_mark.ensures) (omega arith) c.x-2-1.given.0 c.put_text.ensures)
