-- `row_text::rows::put_letters` meets its contract. Assumes nothing.
use borrow.Author.Rules.{rules}
use Rattle.order.specs.Requests.{ask_of}
use Rattle.row_text.specs.Text.{asked_text}
use Rattle.row_text.proofs.Composing.{then-puts}
use Rattle.row_text.proofs.Texts.{letter-length, letters-length}
use Rattle.row_text.proofs.rows.put_letters.Goals as goal

pub put_letter-at-requires : goal.put_letter-at-requires
put_letter-at-requires c = let e = letters-length c.args.asked in let x = (letter-length c.args.asked.machine 109) in let y = (letter-length c.args.asked.acknowledge 111) in let z = (letter-length c.args.asked.reply 114) in search rules

pub put_letter-at-requires-2 : goal.put_letter-at-requires-2
put_letter-at-requires-2 c = let e = letters-length c.args.asked in let x = (letter-length c.args.asked.machine 109) in let y = (letter-length c.args.asked.acknowledge 111) in let z = (letter-length c.args.asked.reply 114) in search rules

pub put_letter-requires : goal.put_letter-requires
put_letter-requires c = let e = letters-length c.args.asked in let x = (letter-length c.args.asked.machine 109) in let y = (letter-length c.args.asked.acknowledge 111) in let z = (letter-length c.args.asked.reply 114) in search rules

pub returns : goal.returns
unfolding asked_text ask_of
returns c = then-puts (then-puts c.put_letter-at.ensures c.put_letter-at-2.ensures) c.put_letter.ensures
