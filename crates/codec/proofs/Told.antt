-- That no refusal has the number 0, and what a `?` tells of a check that another follows. Assumes nothing.
use Prim.Native.Nat.{ℕ, zero, suc, ◌<◌}
use mathlib.Core.Path.{◌≡◌, refl}
use native.Mathlib.Omega.{arith}
use lib.Dec.{lit<}
use Rattle.codec.specs.Codec.{first}
use Rattle.codec.specs.Refusals.{check_no, fault_no}
use Rattle.codec.specs.declared.Fault.{Fault}
use Rattle.codec.specs.declared.Fault.TheVariants.{Short, Version, Code, BadText, Count, Forms, Security, Fill, NoRoom, TooLong, RuleA, RuleB, RuleC, RuleD, RuleE, RuleF, RuleG, RuleH, RuleI, HeaderSize, SizeSum, NoBody, NeedlessBody}
use Rattle.std.specs.Prelude.{Result, Ok, Err}

-- no refusal has the number 0
pub fault-positive : (f : Fault) → 0 < fault_no f
fault-positive Short = lit< tt
fault-positive Version = lit< tt
fault-positive Code = lit< tt
fault-positive BadText = lit< tt
fault-positive Count = lit< tt
fault-positive Forms = lit< tt
fault-positive Security = lit< tt
fault-positive Fill = lit< tt
fault-positive NoRoom = lit< tt
fault-positive TooLong = lit< tt
fault-positive RuleA = lit< tt
fault-positive RuleB = lit< tt
fault-positive RuleC = lit< tt
fault-positive RuleD = lit< tt
fault-positive RuleE = lit< tt
fault-positive RuleF = lit< tt
fault-positive RuleG = lit< tt
fault-positive RuleH = lit< tt
fault-positive RuleI = lit< tt
fault-positive HeaderSize = lit< tt
fault-positive SizeSum = lit< tt
fault-positive NoBody = lit< tt
fault-positive NeedlessBody = lit< tt

pub first-refusal : (f g : ℕ) → 0 < f → f ≡ first f g
unfolding first
first-refusal zero g h = absurd (omega arith)
first-refusal (suc f) g h = refl

module _ {A : Type 0} where
  -- past a check that refuses nothing
  pub fine-first : (a : Result A Fault) (x : A) (n : ℕ) → a ≡ Ok x → n ≡ first (check_no a) n
  unfolding first check_no
  fine-first a x n e = rw e

  -- at one that refuses
  pub bad-first : (B : Type 0) (a : Result A Fault) (f : Fault) (n : ℕ) → a ≡ Err f → check_no {A = B} (Err f) ≡ first (check_no a) n
  unfolding check_no
  bad-first B a f n e = rw e (first-refusal (fault_no f) n (fault-positive f))
