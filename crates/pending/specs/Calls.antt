-- What posting, receipt and release answer and make of the rows of any table, well formed or not.
use Rattle.codec.specs.Answer.{pick}
use Rattle.codec.specs.Verdict.{Verdict, plain}
use Rattle.order.specs.Calls.{Rows, on_table}
use Rattle.table.specs.Rows.{see}
use Rattle.table.specs.WellFormed.{well_formed}
use Rattle.table.specs.declared.Table.{Table}
use Rattle.arguments.specs.Arguments.{Arguments, call_of}

-- the answer: 30 comes before all others
abbrev pub answer_on : Arguments → Table → Verdict
answer_on a t = pick (well_formed t) (on_table (call_of a) (see t)).0 (plain 30)

-- the rows behind the call
abbrev pub rows_after : Arguments → Table → Rows
rows_after a t = pick (well_formed t) (on_table (call_of a) (see t)).1 (see t)
