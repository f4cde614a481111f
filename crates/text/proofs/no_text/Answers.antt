-- `text::no_text` meets its contract. Assumes nothing.
use mathlib.Core.Path.{refl}
use Rattle.text.proofs.no_text.Goals as goal

pub returns : goal.returns
returns c = refl
