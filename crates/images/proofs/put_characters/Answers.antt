-- `images::put_characters` meets its contract. Assumes nothing.
use Rattle.images.proofs.Copies.{characters-put}
use Rattle.images.proofs.put_characters.Goals as goal

pub returns : goal.returns
returns c = characters-put _ _ c.args.s.now c.args.n _ c.copy.ensures c.clear.ensures c.requires.0
