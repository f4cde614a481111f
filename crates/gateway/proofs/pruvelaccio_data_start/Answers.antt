-- `gateway::pruvelaccio_data_start` meets its contract. Assumes nothing.
use Prim.Native.Nat.{ℕ, ◌-◌}
use mathlib.Core.Path.{ap, ◌∙◌}
use mathlib.Core.List.{List}
use lib.ListN.{length, drop}
use Rattle.gateway.proofs.Starts.{starts, within}
use Rattle.gateway.proofs.pruvelaccio_data_start.Goals as goal

pub overflow_sub-result : goal.overflow_sub-result
overflow_sub-result c = rw c.user_data-data.ensures (within _ _)

pub returns : goal.returns
returns c =
    let s = c.args.datagram.now in
    (ap (λ (l : List ℕ). drop (length s - length l) s) c.user_data-data.ensures ∙ starts s _, ap (λ (l : List ℕ). length s - length l) c.user_data-data.ensures)
