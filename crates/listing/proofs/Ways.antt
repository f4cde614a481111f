-- The rows of the listing by their numbers, and its answers way by way. Assumes nothing.
use Prim.Native.Nat.{ℕ, zero, suc, ◌+◌, ◌-◌, ◌*◌, ◌<◌, ◌≤◌}
use mathlib.Core.Path.{◌≡◌, refl, sym, ap, ◌∙◌}
use mathlib.Core.Bool.{true, false}
use mathlib.Core.List.{List, [], ◌∷◌, map}
use lib.Dec.{leb}
use lib.ListN.{length, get_or, length-map}
use lib.Seq.{get_or-take, length-take-le}
use native.Mathlib.Omega.{arith}
use Rattle.cells.specs.Cells.{part}
use Rattle.cells.proofs.Lists.{many-count, many-entry}
use Rattle.cells.proofs.Replaced.{part_length}
use Rattle.table.specs.Rows.{row_of, used_rows, see}
use Rattle.table.specs.WellFormed.{well_formed}
use Rattle.table.specs.Zero.{no_row}
use Rattle.table.specs.declared.Row.{Row}
use Rattle.table.specs.declared.Table.{Table}
use Rattle.table_octets.specs.Table.{row_in, table_in}
use Rattle.row_text.specs.Text.{row_text, count_line, row_at, listed}
use Rattle.row_text.specs.Puts.{Puts}
use Rattle.listing.specs.Listing.{Listing, done, rejected, listing_of, listing, output_after, listing_no, told}
use Rattle.listing.specs.declared.ListingFault.{ListingFault}
use Rattle.codec.specs.declared.Refusal.{Refusal}
use Rattle.std.specs.Prelude.{Err}

at_row : (l : List Row) (i : ℕ) (d : Row) → i < length l → row_at (map row_of l) i ≡ row_text (row_of (get_or l i d))
unfolding row_at
at_row [] i d h = absurd (omega arith)
at_row (r ∷ l) zero d h = refl
at_row (r ∷ l) (suc i) d h = at_row l i d (omega arith)

past-rows : (l : List Row) (i : ℕ) → length l ≤ i → row_at (map row_of l) i ≡ []
unfolding row_at
past-rows [] i h = refl
past-rows (r ∷ l) zero h = absurd (omega arith)
past-rows (r ∷ l) (suc i) h = past-rows l i (omega arith)

-- the rows by their numbers, where the count is within the cells
module _ (s : List ℕ) (n : ℕ) (most : (table_in s).count ≤ 32) where
  used : length (used_rows (table_in s)) ≡ (table_in s).count
  unfolding table_in
  used = length-take-le (table_in s).count (table_in s).rows (rw (many-count row_in 1592 32 (part 0 50944 s)) most)

  pub count-listed : n ≡ 0 → listed (see (table_in s)) n ≡ count_line (table_in s).count
  unfolding listed see
  count-listed e = rw (e, length-map, used)

  behind : 0 < n → listed (see (table_in s)) n ≡ row_at (map row_of (used_rows (table_in s))) (n - 1)
  unfolding listed see
  behind h = let e : n ≡ suc (n - 1) = omega arith in ap (listed (see (table_in s))) e

  pub none-listed : (table_in s).count < n → listed (see (table_in s)) n ≡ []
  none-listed h = behind (omega arith) ∙ past-rows (used_rows (table_in s)) (n - 1) (rw used (omega arith))

  module _ (first : 0 < n) (last : n ≤ (table_in s).count) where
    pub row-there : length s ≡ 50948 → (n - 1) * 1592 + 1592 ≤ length (part 0 50944 s)
    row-there h = let l : length (part 0 50944 s) ≡ 50944 = part_length 0 50944 s (omega arith) in omega arith

    -- the row's octets
    pub row_listed : (e : List ℕ) → e ≡ part ((n - 1) * 1592) 1592 (part 0 50944 s) → listed (see (table_in s)) n ≡ row_text (row_of (row_in e))
    unfolding table_in
    row_listed e q =
        behind first ∙ at_row (used_rows (table_in s)) (n - 1) no_row (rw used (omega arith))
        ∙ ap (λ (r : Row). row_text (row_of r)) (get_or-take (table_in s).count (table_in s).rows (n - 1) no_row (omega arith)
        ∙ sym (many-entry row_in 1592 32 (n - 1) (part 0 50944 s) e no_row q (omega arith)))

module _ (t : Table) (n : ℕ) (out : List ℕ) where
  abbrev Told : Listing → List ℕ → Type 0
  Told x after = (x ≡ listing t n (length out)) × (after ≡ output_after (see t) n (listing t n (length out)) out)

  pub ill-formed : well_formed t ≡ false → Told (rejected 30 0 0) out
  unfolding listing output_after
  ill-formed e = (rw e, rw e)

  module _ (well : well_formed t ≡ true) where
    pub no_room : leb (length (listed (see t) n)) (length out) ≡ false → Told (rejected 11 0 0) out
    unfolding listing listing_of output_after
    no_room e = (rw (well, e), rw (well, e))

    pub is-listed : leb (length (listed (see t) n)) (length out) ≡ true → (after : List ℕ) (q : ℕ) → Puts (listed (see t) n) out after 0 q → Told (done q) after
    unfolding listing listing_of output_after
    is-listed e after q w =
        let z : 0 + length (listed (see t) n) ≡ length (listed (see t) n) = omega arith in
        (ap done (w.ends ∙ z) ∙ rw (well, e), rw (well, e) (rw z at w.octets))

-- a refusal's answer
pub told-plain : (f : ListingFault) (y : Refusal ListingFault) → (y.fault ≡ f) × (y.place.0 ≡ 0) × (y.block.0 ≡ 0) → told (Err y) ≡ rejected (listing_no f) 0 0
unfolding told
told-plain f y h = λ i. rejected (listing_no (h.0 i)) (h.1 i) (h.2 i)
