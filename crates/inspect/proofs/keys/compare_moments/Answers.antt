-- `inspect::keys::compare_moments` meets its contract. Assumes nothing.
use Rattle.inspect.proofs.keys.compare_moments.Goals as goal

pub returns : goal.returns
returns c = rw (← c.load_stamp.ensures, ← c.load_stamp-2.ensures) c.compare_stamps.ensures
