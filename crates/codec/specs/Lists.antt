-- Lists whose entries are each led by a recurrence bit, and lists in the cells of an array.
use Rattle.std.specs.Prelude.{ℕ, zero, suc, ◌-◌, Bool, true, false, ◌&&◌, List, [], ◌∷◌, ◌++◌, map, length, take, replicate, leb, eqb}
use Rattle.codec.specs.Codec.{Codec, flag, must, nothing, present, viewed, ◌&◌, ◌then_by◌}

abbrev pub non_empty : {A : Type 0} → List A → Bool
non_empty [] = false
non_empty (x ∷ xs) = true

-- a bit that asks for more, with room for n: a recurrence bit with room for n entries behind its own; with room for none it has to be 0
unfoldable pub recurs : ℕ → Codec Bool
recurs zero = must false 5
recurs (suc n) = flag

-- a list's first entry behind its recurrence bit, which says whether there are others, and the others
abbrev pub joined : {A : Type 0} → (Bool × A) × List A → List A
joined z = z.0.1 ∷ z.1

abbrev pub apart : {A : Type 0} → A → List A → (Bool × A) × List A
apart x [] = ((false, x), [])
apart x (y ∷ ys) = ((non_empty ys, y), ys)

abbrev pub entries : {A : Type 0} → A → Codec A → Codec Bool → Codec (List A) → Codec (List A)
entries x c bit rest = viewed joined (apart x) (map c.norm) non_empty 5 ((bit & c) then_by (λ e. present [] rest e.0))

-- a list of 1 to n + 1 entries of c; x stands for the entry of an empty list, which is refused
unfoldable pub listed : {A : Type 0} → A → Codec A → ℕ → Codec (List A)
listed x c zero = entries x c (recurs zero) (nothing [])
listed x c (suc n) = entries x c (recurs (suc n)) (listed x c n)

-- The lists of c in an array of `room` cells with their count beside it, x in the cells that are not used; fault is the refusal of a count over
-- `most`. (That an array has its cells is part of the test: every array of a declared type has them, a list of this logic need not.)
unfoldable pub cells : {A : Type 0} → A → ℕ → ℕ → ℕ → Codec (List A) → Codec (List A × ℕ)
cells x room most fault c =
    viewed
    (λ xs. (xs ++ replicate (room - length xs) x, length xs))
    (λ y. take y.1 y.0)
    (λ y. (c.norm (take y.1 y.0) ++ replicate (length y.0 - y.1) x, y.1))
    (λ y. eqb (length y.0) room && leb y.1 most)
    fault c
