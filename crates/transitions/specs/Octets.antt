-- What a call that is done makes of a table's octets: which rows move, what a new row holds, what is 0.
use Prim.Native.Nat.{ℕ, zero, suc, ◌+◌, ◌-◌, ◌*◌, Ordering}
use Rattle.std.specs.Prelude.{Bool, true, false, List, [], ◌∷◌, ◌++◌, length}
use Rattle.std.proofs.Common.{inl, inr}
use Rattle.std.proofs.Math.Option.{Option, none, some}
use Rattle.calls.specs.Order.{choose}
use Rattle.calls.specs.Keyed.{find}
use Rattle.calls.specs.Operations.{post, receipt, release}
use Rattle.order.specs.Values.{by_key, by_address}
use Rattle.order.specs.Requests.{Mark}
use Rattle.order.specs.Calls.{Row, Rows, Receipt, Call, replied}
use Rattle.cells.specs.Cells.{part, replaced, word_octets, inserted_at, removed_at}
use Rattle.table.specs.Rows.{code_of, see}
use Rattle.table_octets.specs.Table.{size_of_recipient, at_recipient_machine, size_of_row, at_row_recipients, row_octets, at_table_count, table_in}
use Rattle.table_octets.specs.Image.{code_image, row_image}

-- the place of a key among rows, or of an address among recipients: how many come before it
unfoldable pub place_of : {K W : Type 0} → (K → K → Ordering) → K → List (K × W) → ℕ
place_of cmp k [] = 0
place_of cmp k (x ∷ l) = choose (cmp k x.0) 0 0 (suc (place_of cmp k l))

-- the count of rows
abbrev pub counted : ℕ → List ℕ → List ℕ
counted n s = replaced at_table_count 4 s (word_octets n)

-- a part changed, and the rest as it was
abbrev pub within : ℕ → ℕ → (List ℕ → List ℕ) → List ℕ → List ℕ
within at n f s = replaced at n s (f (part at n s))

-- the marks that three code cells stand for
unfoldable pub marks : ℕ → ℕ → ℕ → Mark
marks m a r = record { machine = code_of m; acknowledge = code_of a; reply = code_of r }

abbrev pub has_mark : Option Mark → Bool
has_mark none = false
has_mark (some m) = true

-- the three code cells of a recipient
unfoldable pub codes_octets : Mark → List ℕ
codes_octets m = word_octets (code_image m.machine) ++ word_octets (code_image m.acknowledge) ++ word_octets (code_image m.reply)

-- a recipient behind a receipt, where the receipt leaves marks at it
unfoldable pub marked : Option Mark → List ℕ → List ℕ
marked none s = s
marked (some m) s = within at_recipient_machine 12 (λ old. codes_octets m) s

-- a row behind a receipt, where the receipt leaves marks at its answerer
unfoldable pub settled : Receipt → Row → Option Mark → List ℕ → List ℕ
settled p r none s = s
settled p r (some m) s = within (at_row_recipients + place_of by_address p.0 r.1 * size_of_recipient) size_of_recipient (marked (some m)) s

-- a table behind a receipt, where it holds the row
unfoldable pub received : ℕ → Receipt → Option Row → List ℕ → List ℕ
received i p none s = s
received i p (some r) s = within (i * size_of_row) size_of_row (settled p r (replied p.0 p.1 r).1) s

-- the rows s, the octets t
unfoldable pub done_on : Call → Rows → List ℕ → List ℕ
done_on (inl n) s t = t
done_on (inr (post k r)) s t = counted (length s + 1) (inserted_at size_of_row (length s) (place_of by_key k s) (row_octets (row_image (k, r))) t)
done_on (inr (receipt k p)) s t = received (place_of by_key k s) p (find by_key k s) t
done_on (inr (release k)) s t = counted (length s - 1) (removed_at size_of_row (length s) (place_of by_key k s) t)

-- a call that answers with this number: 0 is done, and any other leaves every octet as it was
unfoldable pub octets_after : Call → ℕ → List ℕ → List ℕ
octets_after c zero t = done_on c (see (table_in t)) t
octets_after c (suc f) t = t
