-- `row_text::rows::key_line_length` meets its contract. Assumes nothing.
use borrow.Author.Rules.{rules}
use mathlib.Core.Path.{ap}
use lib.ListN.{length}
use Rattle.optional.specs.declared.OptionalNumber.{OptionalNumber}
use Rattle.order.specs.Values.{option_of}
use Rattle.table_octets.specs.Table.{key_in}
use Rattle.row_text.specs.Text.{extension_text}
use Rattle.row_text.proofs.Texts.{key-text-length, key-line-length}
use Rattle.row_text.proofs.rows.key_line_length.Goals as goal

pub returns : goal.returns
unfolding key_in
returns c = let e = key-line-length c.args.asked (key_in c.args.k.now) in let f = key-text-length (key_in c.args.k.now) in let x = ap (λ (n : OptionalNumber). length (extension_text (option_of n))) c.load_extension-held.ensures in search rules
