-- What the octets of a part that may be absent hold, and lists of parts.
use Rattle.std.specs.Prelude.{ℕ, suc, Bool, List}
use Rattle.cells.specs.Cells.{part, flag_in}
use Rattle.codec.specs.Codec.{Codec}
use Rattle.codec.specs.Lists.{cells, listed}

-- a flag, and n octets from a place on
abbrev pub behind_flag : {A : Type 0} → (List ℕ → A) → ℕ → ℕ → List ℕ → Bool × A
behind_flag held place n s = (flag_in (part 0 place s), held (part place n s))

-- 1 to n + 1 of them in so many cells, with their count
abbrev pub counted : {A : Type 0} → A → ℕ → Codec A → ℕ → Codec (List A × ℕ)
counted x room c n = cells x room (suc n) 5 (listed x c n)
