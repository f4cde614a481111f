-- Fill bits, one after the other. Assumes nothing.
use Prim.Native.Nat.{ℕ, suc, ◌+◌, ◌-◌, ◌<◌, ◌≤◌}
use mathlib.Core.Path.{◌≡◌, ap, sym, ◌∙◌}
use mathlib.Core.Bool.{Bool, false}
use mathlib.Core.List.{List}
use native.Mathlib.Omega.{arith}
use Rattle.bits.specs.declared.BitPlace.{BitPlace}
use Rattle.codec.specs.Answer.{next}
use Rattle.codec.specs.Codec.{must}
use Rattle.codec.specs.Refusals.{answer}
use Rattle.codec.specs.declared.FieldFault.{FieldFault}
use Rattle.std.specs.Prelude.{Ok, Err}
use Rattle.reader.specs.Reading.{read_fill}

one_more : (left i : ℕ) → i < left → left - i ≡ suc (left - (i + 1))
one_more left i h = omega arith

-- past a fill bit that is 0, and at one that is refused
pub fill_more : (bs : List Bool) (left i : ℕ) (p q : BitPlace) → i < left → answer (Ok q) false ≡ (must false 9).read bs p.0 → read_fill (left - i) bs p.0 ≡ read_fill (left - (i + 1)) bs q.0
unfolding read_fill next answer
fill_more bs left i p q h e = ap (λ (n : ℕ). read_fill n bs p.0) (one_more left i h) ∙ rw (← e)

pub fill_stop : (bs : List Bool) (left i : ℕ) (p : BitPlace) (f : FieldFault) → i < left → answer (Err f) false ≡ (must false 9).read bs p.0 → answer (Err f) false ≡ read_fill (left - i) bs p.0
unfolding read_fill next answer
fill_stop bs left i p f h e = sym (ap (λ (n : ℕ). read_fill n bs p.0) (one_more left i h) ∙ rw (← e))

pub fill_none : (bs : List Bool) (left i : ℕ) (p : BitPlace) → left ≤ i → answer (Ok p) false ≡ read_fill (left - i) bs p.0
unfolding read_fill answer
fill_none bs left i p h = let z : 0 ≡ left - i = omega arith in ap (λ (n : ℕ). read_fill n bs p.0) z
