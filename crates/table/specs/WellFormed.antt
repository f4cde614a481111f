-- Document 01's "well formed", for any table at all. `well_formed` asks that the count of rows fits the 32 places, that each used row is fine by itself, and that the keys rise
-- from row to row. `row_fine` asks for a legal key, a request that is asked, between 1 and 16 recipients whose addresses rise, and that each recipient is fine.
-- `recipient_fine` asks for a legal address and for codes that belong where they stand; a 2, which answers everything, leaves nothing open beside it.
use Prim.Native.Nat.{ℕ, Ordering}
use Rattle.std.specs.Prelude.{Bool, true, false, not, ◌&&◌, ◌||◌, List, [], ◌∷◌, map, leb, eqb}
use Rattle.header.specs.Table.{address}
use Rattle.header.specs.Rules.{◌⇒◌, all}
use Rattle.header.specs.declared.Requests.{Requests}
use Rattle.calls.specs.Order.{choose}
use Rattle.order.specs.Values.{address_of, key_of, key_fault, by_address, by_key}
use Rattle.order.specs.Requests.{answered_by}
use Rattle.table.specs.Rows.{used_recipients, used_rows}
use Rattle.table.specs.declared.Recipient.{Recipient}
use Rattle.table.specs.declared.Row.{Row}
use Rattle.table.specs.declared.Table.{Table}

-- strictly in order: each comes before the next
unfoldable pub increasing : {A : Type 0} → (A → A → Ordering) → List A → Bool
increasing cmp [] = true
increasing cmp (x ∷ []) = true
increasing cmp (x ∷ y ∷ l) = choose (cmp x y) true false false && increasing cmp (y ∷ l)

-- no code; or a code at a request that is asked and that it answers
abbrev pub fits : Bool → (ℕ → Bool) → ℕ → Bool
fits asked answers code = eqb code 0 || (asked && answers code)

-- asked, and without a code
abbrev pub unanswered : Bool → ℕ → Bool
unanswered asked code = asked && eqb code 0

unfoldable pub recipient_fine : Requests → Recipient → Bool
recipient_fine a r =
    eqb (address.check r.address) 0
    && fits a.machine (λ c. (answered_by c).machine) r.machine
    && fits a.acknowledge (λ c. (answered_by c).acknowledge) r.acknowledge
    && fits a.reply (λ c. (answered_by c).reply) r.reply
    && ((eqb r.machine 2 || eqb r.acknowledge 2 || eqb r.reply 2)
    ⇒ not (unanswered a.machine r.machine || unanswered a.acknowledge r.acknowledge || unanswered a.reply r.reply))

unfoldable pub row_fine : Row → Bool
row_fine r =
    eqb (key_fault r.key) 0
    && (r.asked.machine || r.asked.acknowledge || r.asked.reply)
    && leb 1 r.count && leb r.count 16
    && all (recipient_fine r.asked) (used_recipients r)
    && increasing by_address (map (λ x. address_of x.address) (used_recipients r))

unfoldable pub well_formed : Table → Bool
well_formed t = leb t.count 32 && all row_fine (used_rows t) && increasing by_key (map (λ r. key_of r.key) (used_rows t))
