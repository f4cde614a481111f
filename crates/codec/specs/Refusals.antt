-- What the answers of `src/` say in document 01's numbers.
use Rattle.std.specs.Prelude.{ℕ, Result, Ok, Err}
use Rattle.bits.specs.declared.BitPlace.{BitPlace}
use Rattle.codec.specs.Answer.{Answer, got, refused}
use Rattle.codec.specs.declared.Fault.{Fault}
use Rattle.codec.specs.declared.FieldFault.{FieldFault}
use Rattle.codec.specs.declared.BlockFault.{BlockFault}
use Rattle.codec.specs.Verdict.{Verdict, fine, in_block}
pub use Rattle.codec.specs.Numbers.{fault_no}

-- how reading a group went on, and a value that was read with the next place: the names of `src/` for these types
abbrev pub Step : Type 0
Step = Result BitPlace FieldFault

abbrev pub Reading : Type 0 → Type 0
Reading A = Result (A × BitPlace) FieldFault

-- what a step says with the value beside it
unfoldable pub answer : {A : Type 0} → Step → A → Answer A
answer (Ok p) x = got x p.0
answer (Err e) x = refused (fault_no e.fault) e.place.0

-- what a reading says
unfoldable pub answer_of : {A : Type 0} → Reading A → Answer A
answer_of (Ok r) = got r.0 r.1.0
answer_of (Err e) = refused (fault_no e.fault) e.place.0

-- how reading went on, without the value
abbrev pub step_of : {A : Type 0} → Reading A → Step
step_of (Ok r) = Ok r.1
step_of (Err e) = Err e

-- the number of a check's refusal, 0 for none
unfoldable pub check_no : {A : Type 0} → Result A Fault → ℕ
check_no (Ok x) = 0
check_no (Err f) = fault_no f

-- the number and the block of what the rules and the sizes say
unfoldable pub finding_says : {A : Type 0} → Result A BlockFault → Verdict
finding_says (Ok x) = fine
finding_says (Err e) = in_block e.block.0 (fault_no e.fault)
