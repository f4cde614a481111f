-- The number of each kind of refusal of the listing.
use Rattle.std.specs.Prelude.{ℕ}
use Rattle.listing.specs.declared.ListingFault.{ListingFault}
use Rattle.listing.specs.declared.ListingFault.TheVariants.{NoRoom, IllFormed}

-- document 01's number of a refusal
abbrev pub listing_no : ListingFault → ℕ
-- the output is shorter than the row
listing_no NoRoom = 11
-- the table is not well formed
listing_no IllFormed = 30
