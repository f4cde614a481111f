-- `read_group::dtg::read_day` meets its contract. Assumes nothing.
use Rattle.into.proofs.Telling.{into-as}
use Rattle.read_group.proofs.dtg.read_day.Goals as goal

pub returns : goal.returns
returns c = into-as _ _ c.day_in-days.ensures.0 c.read_word.ensures
