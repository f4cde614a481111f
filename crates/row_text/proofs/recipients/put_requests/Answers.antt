-- `row_text::recipients::put_requests` meets its contract. Assumes nothing.
use borrow.Author.Rules.{rules}
use Rattle.table.specs.Rows.{code_of}
use Rattle.table_octets.specs.Table.{recipient_in}
use Rattle.row_text.specs.Parts.{requests_text}
use Rattle.row_text.proofs.Composing.{then-puts}
use Rattle.row_text.proofs.Texts.{requests-length, request-length}
use Rattle.row_text.proofs.recipients.put_requests.Goals as goal

pub put_request-at-requires : goal.put_request-at-requires
unfolding recipient_in
put_request-at-requires c = let e = requests-length c.args.asked (recipient_in c.args.x.now) in let x = request-length c.args.asked.machine 109 (code_of (recipient_in c.args.x.now).machine) in let y = request-length c.args.asked.acknowledge 111 (code_of (recipient_in c.args.x.now).acknowledge) in let z = request-length c.args.asked.reply 114 (code_of (recipient_in c.args.x.now).reply) in search rules

pub put_request-at-requires-2 : goal.put_request-at-requires-2
unfolding recipient_in
put_request-at-requires-2 c = let e = requests-length c.args.asked (recipient_in c.args.x.now) in let x = request-length c.args.asked.machine 109 (code_of (recipient_in c.args.x.now).machine) in let y = request-length c.args.asked.acknowledge 111 (code_of (recipient_in c.args.x.now).acknowledge) in let z = request-length c.args.asked.reply 114 (code_of (recipient_in c.args.x.now).reply) in search rules

pub put_request-requires : goal.put_request-requires
unfolding recipient_in
put_request-requires c = let e = requests-length c.args.asked (recipient_in c.args.x.now) in let x = request-length c.args.asked.machine 109 (code_of (recipient_in c.args.x.now).machine) in let y = request-length c.args.asked.acknowledge 111 (code_of (recipient_in c.args.x.now).acknowledge) in let z = request-length c.args.asked.reply 114 (code_of (recipient_in c.args.x.now).reply) in search rules

pub returns : goal.returns
unfolding requests_text recipient_in
returns c = then-puts (then-puts c.put_request-at.ensures c.put_request-at-2.ensures) c.put_request.ensures
