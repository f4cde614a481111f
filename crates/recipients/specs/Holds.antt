-- The octets of a new row's recipients.
use Rattle.std.specs.Prelude.{ℕ, ◌≤◌, ◌≡◌, List, map, length, take}
use Rattle.cells.specs.Cells.{many_octets, Each}
use Rattle.header.specs.declared.Addresses.{Addresses}
use Rattle.calls.specs.Keyed.{sort}
use Rattle.order.specs.Values.{Address, address_of, by_address}
use Rattle.order.specs.Requests.{Mark, blank}
use Rattle.table_octets.specs.Table.{recipient_octets}
use Rattle.table_octets.specs.Typed.{TypedRecipient}
use Rattle.table_octets.specs.Image.{recipient_image, recipients_image}

-- n recipients, none with a code, and 0 behind them
pub record Holds (l : List (Address × Mark)) (n : ℕ) (s : List ℕ) : Type 0 where
  pub count : length l ≡ n
  pub few : n ≤ 16
  pub is : s ≡ many_octets recipient_octets (recipients_image l)
  pub typed : Each TypedRecipient (map recipient_image l)
  pub blanks : Each (λ x. x.1 ≡ blank) l

-- the addresses of a list as recipients without codes: in address order, each once
abbrev pub blanks_of : Addresses → List (Address × Mark)
blanks_of to = sort by_address (map (λ a. (address_of a, blank)) (take to.count to.list))
