-- What a check tells by whether it refuses. Assumes nothing.
use mathlib.Core.Path.{◌≡◌, refl, sym}
use lib.Dec.{eqb}
use borrow.Author.Tests.{ne_eqb}
use native.Mathlib.Omega.{arith}
use Rattle.std.specs.Prelude.{Result, Ok, Err, is_ok, ⊤}
use Rattle.codec.specs.Refusals.{check_no, fault_no}
use Rattle.codec.specs.declared.Fault.{Fault}
use Rattle.codec.proofs.Told.{fault-positive}

pub fine-told : (a : Result ⊤ Fault) → is_ok a ≡ eqb (check_no a) 0
unfolding check_no
fine-told (Ok u) = refl
fine-told (Err f) = sym (ne_eqb (fault_no f) 0 (λ z. let p = fault-positive f in absurd (omega arith)))
