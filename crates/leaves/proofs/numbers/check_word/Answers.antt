-- `leaves::numbers::check_word` meets its contract. Assumes nothing.
use mathlib.Core.Path.{ap, ◌∙◌}
use Rattle.codec.specs.Refusals.{fault_no}
use Rattle.number.specs.Numbers.{number_of}
use Rattle.leaves.proofs.numbers.check_word.Goals as goal

pub returns : goal.returns
returns c = c.check_number.ensures ∙ ap (number_of c.args.f (fault_no c.args.fault)).check c.load_word.ensures
