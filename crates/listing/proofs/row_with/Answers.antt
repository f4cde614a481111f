-- `listing::row_with` meets its contract. Assumes nothing.
use Rattle.listing.proofs.Ways.{row-there, row_listed}
use Rattle.listing.proofs.row_with.Goals as goal

pub entry-requires : goal.entry-requires
entry-requires c = row-there c.args.t.now c.args.number c.requires.2 c.requires.0 c.requires.1 c.requires.3

pub returns : goal.returns
returns c = (row_listed c.args.t.now c.args.number c.requires.2 c.requires.0 c.requires.1 _ c.entry.ensures.0, c.entry.ensures.1)
