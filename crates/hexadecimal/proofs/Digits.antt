-- Digits throughout a line, and what a line tells. Assumes nothing.
use Prim.Native.Nat.{ℕ}
use mathlib.Core.Path.{◌≡◌, refl, ap}
use mathlib.Core.Bool.{Bool, true, false, ◌&&◌}
use mathlib.Core.List.{List, [], ◌∷◌}
use mathlib.Core.Option.{none, some}
use lib.ListN.{length}
use lib.Dec.{leb}
use Rattle.hexadecimal.specs.Lines.{value_of, all_digits, is_line, octets_in, octets_of, to_tell, told}
use Rattle.std.specs.Prelude as std
use Rattle.std.specs.List.{list_all}
use Rattle.bits.specs.declared.OctetSize.{OctetSize}

-- ---- digits throughout

pub all-digits : (l : List ℕ) → list_all (λ x. leb (value_of x) 15) l ≡ all_digits l
unfolding all_digits
all-digits [] = refl
all-digits (x ∷ l) = ap (λ (b : Bool). leb (value_of x) 15 && b) (all-digits l)

-- ---- a line

pub line-is : (l : List ℕ) → is_line l ≡ true → octets_of l ≡ some (octets_in l)
unfolding octets_of
line-is l e = rw e

pub line-not : (l : List ℕ) → is_line l ≡ false → octets_of l ≡ none
unfolding octets_of
line-not l e = rw e

pub tell-skipped : (l : List ℕ) → is_line l ≡ false → told std.None ≡ to_tell (octets_of l)
unfolding told to_tell
tell-skipped l e = rw (line-not l e)

pub tell-octets : (l : List ℕ) (n : OctetSize) → is_line l ≡ true → n.0 ≡ length (octets_in l) → told (std.Some n) ≡ to_tell (octets_of l)
unfolding told to_tell
tell-octets l n e k = rw (line-is l e, k)
