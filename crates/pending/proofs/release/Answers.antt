-- `pending::release` meets its contract. Assumes nothing.
use borrow.Author.Rules.{rules}
use mathlib.Core.Path.{ap, subst, ◌∙◌}
use Rattle.codec.specs.Verdict.{plain}
use Rattle.order.specs.Calls.{Call}
use Rattle.table_octets.specs.Table.{key_in}
use Rattle.arguments.specs.Told.{answer_says}
use Rattle.transitions.specs.Transition.{Transition}
use Rattle.pending.proofs.Named.{release-named}
use Rattle.pending.proofs.release.Goals as goal

pub release_row-requires : goal.release_row-requires
release_row-requires c = (search rules, search rules, c.by_check-said.ensures.1)

pub returns : goal.returns
returns c = (
  subst (λ (x : Call). Transition x c.args.t.now (answer_says c.release_row.result) c.release_row.new.t) (release-named (key_in c.args.key.now) _ (c.by_check-said.ensures.0 ∙ ap plain c.check_key.ensures)) c.release_row.ensures.0,
  c.release_row.ensures.1,
)
