-- What the answers of posting, receipt and release tell: the number, 0 for done, the block, and the place, which is 0.
use Rattle.std.specs.Prelude.{ℕ, Result, Ok, Err, ⊤}
use Rattle.bits.specs.declared.OctetSize.{OctetSize}
use Rattle.codec.specs.Refusals.{fault_no}
use Rattle.codec.specs.Verdict.{Verdict, in_block, fine}
use Rattle.codec.specs.declared.Fault.{Fault}
use Rattle.codec.specs.declared.Refusal.{Refusal}
use Rattle.arguments.specs.declared.PendingFault.{PendingFault}
unfoldable pub use Rattle.arguments.specs.Numbers.{pending_no}

-- the answer of a call: the name of `src/` for this type
abbrev pub Answer : Type 0
Answer = Result ⊤ (Refusal PendingFault)

unfoldable pub answer_says : Answer → Verdict
answer_says (Ok u) = fine
answer_says (Err e) = in_block e.block.0 (pending_no e.fault)

unfoldable pub answer_place : Answer → ℕ
answer_place (Ok u) = 0
answer_place (Err e) = e.place.0

-- the number and the block in the writer's answer
unfoldable pub written_says : Result OctetSize (Refusal Fault) → Verdict
written_says (Ok n) = fine
written_says (Err e) = in_block e.block.0 (fault_no e.fault)
