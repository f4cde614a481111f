-- The plain sheet of document 01's history, as the theory of the calls has it: rows in the order of their posting, a call at a time.
use Rattle.codec.specs.Verdict.{Verdict}
use Rattle.calls.specs.Operations as theory
use Rattle.order.specs.Calls.{Call, Rows, rules}

unfoldable pub sheet : Call → Rows → Verdict × Rows
sheet c s = let x = theory.sheet rules c (s, tt) in (x.0, x.1.0)
