-- What the listing's call promises of any table, row number and output.
use Rattle.std.specs.Prelude.{ℕ, List, ◌++◌, length, drop, leb, Result, Ok, Err}
use Rattle.codec.specs.Answer.{pick}
use Rattle.order.specs.Calls.{Rows}
use Rattle.table.specs.Rows.{see}
use Rattle.table.specs.WellFormed.{well_formed}
use Rattle.table.specs.declared.Table.{Table}
use Rattle.row_text.specs.Text.{listed}
use Rattle.bits.specs.declared.OctetSize.{OctetSize}
use Rattle.codec.specs.declared.Refusal.{Refusal}
use Rattle.listing.specs.declared.ListingFault.{ListingFault}
pub use Rattle.listing.specs.Numbers.{listing_no}

-- the octets written; or document 01's number, the place and the block, which are 0
pub data Listing : Type 0 where
  done : ℕ → Listing
  rejected : ℕ → ℕ → ℕ → Listing

-- of rows, into an output with room for so many octets
unfoldable pub listing_of : Rows → ℕ → ℕ → Listing
listing_of s n room = pick (leb (length (listed s n)) room) (done (length (listed s n))) (rejected 11 0 0)

-- of a table: 30 comes first
unfoldable pub listing : Table → ℕ → ℕ → Listing
listing t n room = pick (well_formed t) (listing_of (see t) n room) (rejected 30 0 0)

-- the output afterwards: the text and the rest as it was; refused, all as it was
unfoldable pub output_after : Rows → ℕ → Listing → List ℕ → List ℕ
output_after s n (done k) out = listed s n ++ drop k out
output_after s n (rejected f p b) out = out

-- what the call's answer tells
unfoldable pub told : Result OctetSize (Refusal ListingFault) → Listing
told (Ok n) = done n.0
told (Err e) = rejected (listing_no e.fault) e.place.0 e.block.0
