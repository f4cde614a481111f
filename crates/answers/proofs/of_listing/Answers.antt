-- `answers::of_listing` meets its contract. Assumes nothing.
use Rattle.listing.specs.Listing.{told}
use Rattle.answers.specs.Numbers.{list_numbers}
use Rattle.answers.proofs.of_listing.Goals as goal

pub returns-in-Ok : goal.returns-in-Ok
unfolding told list_numbers
returns-in-Ok c = rw c.in-Ok.is c.size.ensures

pub returns-in-Err : goal.returns-in-Err
unfolding told list_numbers
returns-in-Err c = rw (c.in-Err.is, ← c.from.ensures) c.refused.ensures
