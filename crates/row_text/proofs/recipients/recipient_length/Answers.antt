-- `row_text::recipients::recipient_length` meets its contract. Assumes nothing.
use borrow.Author.Rules.{rules}
use Rattle.table_octets.specs.Table.{recipient_in}
use Rattle.row_text.proofs.Texts.{line-length}
use Rattle.row_text.proofs.recipients.recipient_length.Goals as goal

pub returns : goal.returns
unfolding recipient_in
returns c = let e = line-length c.args.asked (recipient_in c.args.x.now) in search rules
