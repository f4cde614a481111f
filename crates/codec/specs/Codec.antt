-- Codecs: how a value is read from bits and written to them, and the ways of making one from others.
use Rattle.std.specs.Prelude.{ℕ, zero, suc, ◌+◌, Bool, true, false, not, ◌&&◌, List, [], ◌∷◌, ◌++◌, length, take, drop, leb}
use Rattle.bits.specs.Bits.{low_bits, value}
use Rattle.codec.specs.Answer.{Answer, got, refused, next, pick}

-- How the values of A are read at a place of the bits, written as bits, checked before they are written (the number of the first refusal, 0
-- for none), brought to the form in which every unused cell is 0, and how many bits are written.
pub record Codec (A : Type 0) : Type 0 where
  pub read : List Bool → ℕ → Answer A
  pub write : A → List Bool
  pub check : A → ℕ
  pub norm : A → A
  pub size : A → ℕ

abbrev pub within : ℕ → ℕ → ℕ → Bool
within lo hi n = leb lo n && leb n hi

-- a number of w bits, from lo to hi; fault is the refusal of another one
unfoldable pub read_number : ℕ → ℕ → ℕ → ℕ → List Bool → ℕ → Answer ℕ
read_number w lo hi fault bs p =
    pick (leb (p + w) (length bs))
    (pick (within lo hi (value (take w (drop p bs))))
    (got (value (take w (drop p bs))) (p + w))
    (refused fault p))
    (refused 1 p)

unfoldable pub number : ℕ → ℕ → ℕ → ℕ → Codec ℕ
number w lo hi fault =
    record {
      read = read_number w lo hi fault;
      write = low_bits w;
      check = λ n. pick (within lo hi n) 0 fault;
      norm = λ n. n;
      size = λ n. w;
    }

-- a presence or recurrence bit
abbrev pub first_bit : List Bool → ℕ → Answer Bool
first_bit [] p = refused 1 p
first_bit (b ∷ bs) p = got b (p + 1)

unfoldable pub flag : Codec Bool
flag = record { read = λ bs p. first_bit (drop p bs) p; write = λ b. b ∷ []; check = λ b. 0; norm = λ b. b; size = λ b. 1 }

-- no bits: x, whatever the cells hold
unfoldable pub nothing : {A : Type 0} → A → Codec A
nothing x = record { read = λ bs p. got x p; write = λ y. []; check = λ y. 0; norm = λ y. x; size = λ y. 0 }

-- the first of two refusals
unfoldable pub first : ℕ → ℕ → ℕ
first zero g = g
first (suc f) g = suc f

-- one field, then one that may depend on it
unfoldable pub ◌then_by◌ : {A B : Type 0} → Codec A → (A → Codec B) → Codec (A × B)
◌then_by◌ c d =
    record {
      read = λ bs p. next (c.read bs p) (λ x q. next ((d x).read bs q) (λ y r. got (x, y) r));
      write = λ xy. c.write xy.0 ++ (d xy.0).write xy.1;
      check = λ xy. first (c.check xy.0) ((d xy.0).check xy.1);
      norm = λ xy. (c.norm xy.0, (d xy.0).norm xy.1);
      size = λ xy. c.size xy.0 + (d xy.0).size xy.1;
    }

-- one field, then another
abbrev pub ◌&◌ : {A B : Type 0} → Codec A → Codec B → Codec (A × B)
◌&◌ c d = c then_by (λ x. d)

infixr 20 ◌&◌ ◌then_by◌
-- c where it is present, and x with no bits where not
unfoldable pub present : {A : Type 0} → A → Codec A → Bool → Codec A
present x c true = c
present x c false = nothing x

-- document 01's [c]: a presence bit, then c where it is 1
abbrev pub optional : {A : Type 0} → A → Codec A → Codec (Bool × A)
optional x c = flag then_by present x c

-- c, unless an edition of the table lacks it: then it has no bits, reading gives x, and a value that is there is refused with fault. Either way the
-- same cells are unused.
unfoldable pub unless : {A : Type 0} → Bool → A → (A → Bool) → ℕ → Codec A → Codec A
unless lacking x there fault c =
    record {
      read = λ bs p. pick lacking (got x p) (c.read bs p);
      write = λ y. pick lacking [] (c.write y);
      check = λ y. pick lacking (pick (there y) fault 0) (c.check y);
      norm = c.norm;
      size = λ y. pick lacking 0 (c.size y);
    }

-- The values of c in the cells of another type. `from` takes them out of the used cells, `to` puts them into cells of which the unused ones are
-- 0, `clean` sets the unused cells to 0; `fine` tests what `from` cannot tell, before the rest, and fault is the refusal where it fails.
unfoldable pub viewed : {A B : Type 0} → (A → B) → (B → A) → (B → B) → (B → Bool) → ℕ → Codec A → Codec B
viewed to from clean fine fault c =
    record {
      read = λ bs p. next (c.read bs p) (λ x q. got (to x) q);
      write = λ y. c.write (from y);
      check = λ y. pick (fine y) (c.check (from y)) fault;
      norm = clean;
      size = λ y. c.size (from y);
    }

-- the same values in another shape
abbrev pub shaped : {A B : Type 0} → (A → B) → (B → A) → Codec A → Codec B
shaped to from c = viewed to from (λ y. to (c.norm (from y))) (λ y. true) 0 c

-- the values of c that pass a test; fault is the refusal of another one, at its first bit
unfoldable pub tested : {A : Type 0} → (A → Bool) → ℕ → Codec A → Codec A
tested test fault c =
    record {
      read = λ bs p. next (c.read bs p) (λ x q. pick (test x) (got x q) (refused fault p));
      write = c.write;
      check = λ x. first (c.check x) (pick (test x) 0 fault);
      norm = c.norm;
      size = c.size;
    }

abbrev pub same : Bool → Bool → Bool
same true b = b
same false b = not b

-- a presence or recurrence bit that has to be b
abbrev pub must : Bool → ℕ → Codec Bool
must b fault = tested (λ x. same x b) fault flag

-- c, then a bit that has to be 0, for which there is no cell
unfoldable pub ◌closed_by◌ : {A : Type 0} → Codec A → ℕ → Codec A
◌closed_by◌ c fault = viewed (λ x. x.0) (λ y. (y, false)) c.norm (λ y. true) 0 (c & must false fault)

infixl 10 ◌closed_by◌
