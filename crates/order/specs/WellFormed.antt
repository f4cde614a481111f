-- Rows that may stand in a table, for given legal keys and addresses.
use Rattle.std.specs.Prelude.{◌≡◌, List, [], ◌∷◌, ◌≤◌, length, T}
use Rattle.std.proofs.Common.{inl, inr}
use Rattle.std.proofs.Math.Option.{Option, none, some}
use Rattle.calls.specs.Keyed.{find, InOrder}
use Rattle.calls.specs.Operations.{post, receipt, release}
use Rattle.order.specs.Values.{Key, Address, by_key, by_address}
use Rattle.order.specs.Requests.{Mark, any_of, WellMarked}
use Rattle.order.specs.Calls.{Operation, Call, Row, Rows}

module _ (LegalKey : Key → Type 0) (LegalAddress : Address → Type 0) where
  pub record FineRow (k : Key) (r : Row) : Type 0 where
    pub legal : LegalKey k
    pub asked : T (any_of r.0)
    pub order : InOrder by_address r.1
    pub least : 1 ≤ length r.1
    pub most : length r.1 ≤ 16
    pub each : (w : Address) (m : Mark) → find by_address w r.1 ≡ some m → LegalAddress w × WellMarked r.0 m

  abbrev pub FineCell : Key → Option Row → Type 0
  FineCell k none = Unit {0}
  FineCell k (some r) = FineRow k r

  pub record WellFormed (s : Rows) : Type 0 where
    pub order : InOrder by_key s
    pub rows : (k : Key) → FineCell k (find by_key k s)
    pub fits : length s ≤ 32

  abbrev pub LegalAll : List Address → Type 0
  LegalAll [] = Unit {0}
  LegalAll (r ∷ rs) = LegalAddress r × LegalAll rs

  -- a posting's row may stand
  abbrev pub LegalOperation : Operation → Type 0
  LegalOperation (post k r) = FineRow k r
  LegalOperation (receipt k p) = Unit {0}
  LegalOperation (release k) = Unit {0}

  abbrev pub LegalCall : Call → Type 0
  LegalCall (inl n) = Unit {0}
  LegalCall (inr d) = LegalOperation d
