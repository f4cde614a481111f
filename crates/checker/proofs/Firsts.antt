-- Two checks, one behind the other. Assumes nothing.
use mathlib.Core.Path.{◌≡◌, refl}
use Rattle.std.specs.Prelude.{Result, Ok, Err}
use Rattle.std.specs.Result.{result_and}
use Rattle.codec.specs.Codec.{first}
use Rattle.codec.specs.Refusals.{check_no, fault_no}
use Rattle.codec.specs.declared.Fault.{Fault}
use Rattle.codec.proofs.Told.{fault-positive, first-refusal}

-- the first refusal counts
pub and-first : {A : Type 0} → (a b : Result A Fault) → check_no (result_and a b) ≡ first (check_no a) (check_no b)
unfolding check_no first
and-first (Ok x) b = refl
and-first (Err f) b = first-refusal (fault_no f) _ (fault-positive f)
