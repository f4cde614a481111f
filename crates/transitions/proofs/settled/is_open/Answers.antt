-- `transitions::settled::is_open` meets its contract. Assumes nothing.
use borrow.Author.Rules.{rules}
use Rattle.transitions.proofs.Codes.{opens_is}
use Rattle.transitions.proofs.settled.is_open.Goals as goal

pub returns-then-answers : goal.returns-then-answers
returns-then-answers c = rw (← opens_is) (search rules)

pub returns-else-answers : goal.returns-else-answers
returns-else-answers c = rw (← opens_is) (search rules)
