-- `transitions::settled::code_after` meets its contract. Assumes nothing.
use Rattle.transitions.proofs.Codes.{code-written, code-kept}
use Rattle.transitions.proofs.settled.code_after.Goals as goal

pub returns-then-opened : goal.returns-then-opened
returns-then-opened c = code-written c.args.opened c.args.code c.args.old c.if-opened.true c.requires

pub returns : goal.returns
returns c = code-kept c.args.opened c.args.code c.args.old c.if-opened.false
