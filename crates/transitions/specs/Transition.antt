-- What a call makes of the octets of any table, once it is known what its arguments say.
use Rattle.std.specs.Prelude.{ℕ, ◌≡◌, List}
use Rattle.codec.specs.Answer.{pick}
use Rattle.codec.specs.Verdict.{Verdict, plain}
use Rattle.order.specs.Calls.{Call, on_table}
use Rattle.table.specs.Rows.{see}
use Rattle.table.specs.WellFormed.{well_formed}
use Rattle.table_octets.specs.Table.{table_in}
use Rattle.transitions.specs.Octets.{octets_after}

-- lent the table's octets t it answers with this number and block and leaves t': 30 comes before all others, then answer and rows are those of the calls on rows. Every octet afterwards is determined,
-- a refusal leaves each as it was, and a well-formed table stays well formed
pub record Transition (c : Call) (t : List ℕ) (told : Verdict) (t' : List ℕ) : Type 0 where
  pub answer : told ≡ pick (well_formed (table_in t)) (on_table c (see (table_in t))).0 (plain 30)
  pub rows : see (table_in t') ≡ pick (well_formed (table_in t)) (on_table c (see (table_in t))).1 (see (table_in t))
  pub well : well_formed (table_in t') ≡ well_formed (table_in t)
  pub octets : t' ≡ octets_after c told.number t
