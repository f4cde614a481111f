-- `optional::write_optional` meets its contract. Assumes nothing.
use borrow.Author.Rules.{rules}
use mathlib.Core.Path.{◌≡◌}
use mathlib.Core.Bool.{true}
use Rattle.codec.specs.Codec.{◌then_by◌, viewed, flag, number, present}
use Rattle.codec.proofs.Compose.{writing}
use Rattle.optional.specs.Optionals.{optional_number}
use Rattle.optional.proofs.write_optional.Goals as goal

pub write_flag-next-requires : goal.write_flag-next-requires
unfolding optional_number ◌then_by◌ viewed flag
write_flag-next-requires c = search rules

pub write_number-requires : goal.write_number-requires
unfolding optional_number ◌then_by◌ viewed flag present number
write_number-requires c = let e : c.args.x.present ≡ true = search in let h = rw e at c.requires.0 in search rules

pub returns-then-present : goal.returns-then-present
unfolding optional_number
returns-then-present c = search writing depth 12

pub returns : goal.returns
unfolding optional_number
returns c = search writing depth 12
