-- `row_text::rows::put_key` meets its contract. Assumes nothing.
use borrow.Author.Rules.{rules}
use mathlib.Core.Path.{ap, sym}
use mathlib.Core.List.{◌∷◌}
use lib.ListN.{length-append}
use Rattle.optional.specs.declared.OptionalNumber.{OptionalNumber}
use Rattle.order.specs.Values.{address_of, option_of, key_of}
use Rattle.table_octets.specs.Table.{key_in}
use Rattle.row_text.specs.Text.{address_text, dtg_text, extension_text}
use Rattle.row_text.specs.Parts.{key_text}
use Rattle.row_text.proofs.Composing.{then-puts, same-puts}
use Rattle.row_text.proofs.Texts.{key-text-length}
use Rattle.row_text.proofs.rows.put_key.Goals as goal

pub put_origin-at-requires : goal.put_origin-at-requires
put_origin-at-requires c = let e = key-text-length (key_in c.args.k.now) in search rules

pub put_extension-requires : goal.put_extension-requires
unfolding dtg_text
put_extension-requires c = let e = key-text-length (key_in c.args.k.now) in let o = length-append (address_text (address_of (key_in c.args.k.now).address)) (32 ∷ dtg_text (key_of (key_in c.args.k.now))) in rw c.load_extension-extension.ensures (search rules)

pub returns : goal.returns
unfolding key_text
returns c = then-puts c.put_origin-at.ensures (same-puts (ap (λ (n : OptionalNumber). 32 ∷ extension_text (option_of n)) (sym c.load_extension-extension.ensures)) c.put_extension.ensures)
