-- `checker::texts::check_present_name` meets its contract. Assumes nothing.
use Rattle.codec.specs.Refusals.{check_no}
use Rattle.codec.proofs.Compose.{checking}
use Rattle.record_octets.specs.Record.{text_in}
use Rattle.checker.proofs.texts.check_present_name.Goals as goal

pub returns-then-has : goal.returns-then-has
returns-then-has c = search checking

pub returns : goal.returns
unfolding check_no text_in
returns c = search checking
