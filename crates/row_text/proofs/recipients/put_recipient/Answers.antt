-- `row_text::recipients::put_recipient` meets its contract. Assumes nothing.
use borrow.Author.Rules.{rules}
use Rattle.table_octets.specs.Table.{recipient_in}
use Rattle.row_text.proofs.Composing.{then-puts, same-puts}
use Rattle.row_text.proofs.Texts.{line-parts, line-length}
use Rattle.row_text.proofs.recipients.put_recipient.Goals as goal

pub put_octets-at-requires : goal.put_octets-at-requires
put_octets-at-requires c = let e = line-length c.args.asked (recipient_in c.args.x.now) in search rules

pub put_address-at-requires : goal.put_address-at-requires
unfolding recipient_in
put_address-at-requires c = let e = line-length c.args.asked (recipient_in c.args.x.now) in search rules

pub put_requests-at-requires : goal.put_requests-at-requires
unfolding recipient_in
put_requests-at-requires c = let e = line-length c.args.asked (recipient_in c.args.x.now) in search rules

pub put_octet-requires : goal.put_octet-requires
unfolding recipient_in
put_octet-requires c = let e = line-length c.args.asked (recipient_in c.args.x.now) in search rules

pub returns : goal.returns
unfolding recipient_in
returns c = same-puts (line-parts c.args.asked (recipient_in c.args.x.now)) (then-puts (then-puts (then-puts c.put_octets-at.ensures c.put_address-at.ensures) c.put_requests-at.ensures) c.put_octet.ensures)
