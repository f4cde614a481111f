-- `row_text::recipients::requests_length` meets its contract. Assumes nothing.
use borrow.Author.Rules.{rules}
use Rattle.table_octets.specs.Table.{recipient_in}
use Rattle.row_text.proofs.Texts.{requests-length}
use Rattle.row_text.proofs.recipients.requests_length.Goals as goal

pub returns : goal.returns
unfolding recipient_in
returns c = let e = requests-length c.args.asked (recipient_in c.args.x.now) in search rules
