-- `transitions::settled::codes_after` meets its contract. Assumes nothing.
use borrow.Author.Rules.{rules}
use mathlib.Core.Path.{◌≡◌, sym}
use mathlib.Core.Bool.{true, false, ◌||◌}
use Rattle.transitions.proofs.Codes.{settle_is, settle_none}
use Rattle.transitions.proofs.settled.codes_after.Goals as goal

pub returns-then-not-reply : goal.returns-then-not-reply
returns-then-not-reply c =
    let o : (c.is_open-machine.result || c.is_open-acknowledge.result || c.is_open-reply.result) ≡ false = search rules in
    settle_none c.args.asked c.args.code c.args.old.machine c.args.old.acknowledge c.args.old.reply _ _ _ _ _ _ c.answers_machine.ensures c.answers_acknowledge.ensures c.answers_reply.ensures c.is_open-machine.ensures c.is_open-acknowledge.ensures c.is_open-reply.ensures o

pub returns : goal.returns
returns c =
    let o : (c.is_open-machine.result || c.is_open-acknowledge.result || c.is_open-reply.result) ≡ true = search rules in
    settle_is c.args.asked c.args.code c.args.old.machine c.args.old.acknowledge c.args.old.reply _ _ _ _ _ _ _ _ _ true c.answers_machine.ensures c.answers_acknowledge.ensures c.answers_reply.ensures c.is_open-machine.ensures c.is_open-acknowledge.ensures c.is_open-reply.ensures (sym o) c.code_after.ensures c.code_after-2.ensures c.code_after-3.ensures
