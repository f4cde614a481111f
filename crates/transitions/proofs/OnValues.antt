-- What a call makes of the table that octets hold, as a value.
use mathlib.Core.Path.{◌≡◌}
use Rattle.codec.specs.Answer.{pick}
use Rattle.codec.specs.Verdict.{Verdict, plain}
use Rattle.order.specs.Calls.{Call, on_table}
use Rattle.table.specs.Rows.{see}
use Rattle.table.specs.WellFormed.{well_formed}
use Rattle.table.specs.declared.Table.{Table}

-- given the table t it answers with this number and block and leaves t'
pub record OnValues (c : Call) (t : Table) (told : Verdict) (t' : Table) : Type 0 where
  pub answer : told ≡ pick (well_formed t) (on_table c (see t)).0 (plain 30)
  pub rows : see t' ≡ pick (well_formed t) (on_table c (see t)).1 (see t)
  pub well : well_formed t' ≡ well_formed t
