-- How many bits a legal value takes at most: one law for each way of making a codec. Assumes nothing.
use Prim.Native.Nat.{ℕ, zero, suc, ◌+◌, ◌*◌, ◌<◌, ◌≤◌}
use mathlib.Core.Path.{◌≡◌}
use mathlib.Core.Bool.{Bool, true, false, ◌&&◌}
use mathlib.Core.List.{List, [], ◌∷◌}
use lib.ListN.{length, take, length-take}
use lib.Dec.{leb, eqb}
use borrow.Author.Tests.{leb-true}
use native.Mathlib.Nat.{suc-mul, mul-le-mul_right}
use native.Mathlib.Omega.{arith}
use Rattle.codec.specs.Answer.{pick}
use Rattle.codec.specs.Codec.{Codec, number, flag, nothing, first, ◌then_by◌, ◌&◌, present, optional, viewed, shaped, tested, unless, must, ◌closed_by◌}
use Rattle.codec.specs.Characters.{characters}
use Rattle.codec.specs.Lists.{recurs, listed, cells}
use Rattle.codec.proofs.Fields.{and_right}
use Rattle.codec.proofs.Sequences.{first-zero}
use Rattle.codec.proofs.ListLaws.{fine-legal}

-- no legal value takes more than n bits
pub record Bounded {A : Type 0} (c : Codec A) (n : ℕ) : Type 0 where
  pub most : (x : A) → c.check x ≡ 0 → c.size x ≤ n

pub number-bounded : (w lo hi fault : ℕ) → Bounded (number w lo hi fault) w
unfolding number
number-bounded w lo hi fault = record { most = λ n l. omega arith }

pub flag-bounded : Bounded flag 1
unfolding flag
flag-bounded = record { most = λ b l. omega arith }

-- what follows x takes at most m x bits, and with x itself at most n
pub then_by-bounded : {A B : Type 0} (c : Codec A) (d : A → Codec B) {n : ℕ} (m : A → ℕ) → ((x : A) → c.check x ≡ 0 → c.size x + m x ≤ n) → ((x : A) → Bounded (d x) (m x)) → Bounded (c then_by d) n
unfolding ◌then_by◌
then_by-bounded c d m both bd =
    record {
      most = λ xy l.
          let z = first-zero (c.check xy.0) ((d xy.0).check xy.1) l in
          omega (arith, both xy.0 z.0, (bd xy.0).most xy.1 z.1);
    }

-- what follows takes at most n bits, whatever it follows
pub behind-bounded : {A B : Type 0} {c : Codec A} {d : A → Codec B} {m n : ℕ} → Bounded c m → ((x : A) → Bounded (d x) n) → Bounded (c then_by d) (m + n)
behind-bounded {c = c} {d = d} {n = n} bc bd = then_by-bounded c d (λ x. n) (λ x l. omega (arith, bc.most x l)) bd

pub and-bounded : {A B : Type 0} {c : Codec A} {d : Codec B} {m n : ℕ} → Bounded c m → Bounded d n → Bounded (c & d) (m + n)
and-bounded bc bd = behind-bounded bc (λ x. bd)

pub present-bounded : {A : Type 0} (x : A) {c : Codec A} {n : ℕ} → Bounded c n → (b : Bool) → Bounded (present x c b) n
unfolding present nothing
present-bounded x bc true = bc
present-bounded x bc false = record { most = λ y l. omega arith }

pub optional-bounded : {A : Type 0} (x : A) {c : Codec A} {n : ℕ} → Bounded c n → Bounded (optional x c) (1 + n)
optional-bounded x bc = behind-bounded flag-bounded (present-bounded x bc)

-- a legal value in the cells of another type is legal out of them
pub viewed-bounded : {A B : Type 0} (to : A → B) (from : B → A) (clean : B → B) (fine : B → Bool) (fault : ℕ) {c : Codec A} {n : ℕ} → ((y : B) → pick (fine y) (c.check (from y)) fault ≡ 0 → c.check (from y) ≡ 0) → Bounded c n → Bounded (viewed to from clean fine fault c) n
unfolding viewed
viewed-bounded to from clean fine fault legal bc = record { most = λ y l. bc.most (from y) (legal y l) }

pub shaped-bounded : {A B : Type 0} (to : A → B) (from : B → A) {c : Codec A} {n : ℕ} → Bounded c n → Bounded (shaped to from c) n
shaped-bounded to from bc = viewed-bounded to from _ _ 0 (λ y l. l) bc

pub tested-bounded : {A : Type 0} (test : A → Bool) (fault : ℕ) {c : Codec A} {n : ℕ} → Bounded c n → Bounded (tested test fault c) n
unfolding tested
tested-bounded test fault {c} bc = record { most = λ x l. bc.most x (first-zero (c.check x) (pick (test x) 0 fault) l).0 }

pub unless-bounded : {A : Type 0} (x : A) (there : A → Bool) (fault : ℕ) {c : Codec A} {n : ℕ} → Bounded c n → (lacking : Bool) → Bounded (unless lacking x there fault c) n
unfolding unless
unless-bounded x there fault bc true = record { most = λ y l. omega arith }
unless-bounded x there fault bc false = record { most = bc.most }

pub must-bounded : (b : Bool) (fault : ℕ) → Bounded (must b fault) 1
must-bounded b fault = tested-bounded _ fault flag-bounded

pub closed_by-bounded : {A : Type 0} {c : Codec A} {n : ℕ} (fault : ℕ) → Bounded c n → Bounded (c closed_by fault) (n + 1)
unfolding ◌closed_by◌
closed_by-bounded fault bc = viewed-bounded _ _ _ _ 0 (λ y l. l) (and-bounded bc (must-bounded false fault))

pub characters-bounded : (n : ℕ) → Bounded (characters n) (7 * n)
unfolding characters
characters-bounded n = record { most = λ cs l. omega arith }

-- a legal list takes at most m bits for each of its entries
pub record Each {A : Type 0} (c : Codec (List A)) (m : ℕ) : Type 0 where
  pub most : (xs : List A) → c.check xs ≡ 0 → c.size xs ≤ length xs * m

module _ {A : Type 0} (x : A) {c : Codec A} {m : ℕ} (bc : Bounded c m) where
  listed-most : (n : ℕ) (ys : List A) → (listed x c n).check ys ≡ 0 → (listed x c n).size ys ≤ length ys * (1 + m)
  unfolding listed viewed ◌then_by◌ present nothing recurs tested flag first
  listed-most zero [] l = omega arith
  listed-most zero (y ∷ []) l = omega (arith, bc.most y (first-zero (c.check y) 0 l).0)
  listed-most zero (y ∷ z ∷ ys) l = absurd (omega arith)
  listed-most (suc n) [] l = omega arith
  listed-most (suc n) (y ∷ []) l = omega (arith, bc.most y (first-zero (c.check y) 0 l).0)
  listed-most (suc n) (y ∷ z ∷ ys) l =
      let k = first-zero (c.check y) ((listed x c n).check (z ∷ ys)) l in
      omega (arith, bc.most y k.0, listed-most n (z ∷ ys) k.1, suc-mul (length (z ∷ ys)) (1 + m))

  -- an entry of a list, with its recurrence bit
  pub listed-each : (n : ℕ) → Each (listed x c n) (1 + m)
  listed-each n = record { most = listed-most n }

module _ {A : Type 0} (x : A) (room most fault : ℕ) (hf : 0 < fault) (c : Codec (List A)) where
  -- a legal array: its count is within the limit, and its used cells hold a legal list
  pub cells-legal : (y : List A × ℕ) → (cells x room most fault c).check y ≡ 0 → (y.1 ≤ most) × (c.check (take y.1 y.0) ≡ 0)
  unfolding cells viewed
  cells-legal y l =
      let f = fine-legal (eqb (length y.0) room && leb y.1 most) (c.check (take y.1 y.0)) fault hf l in
      (leb-true y.1 most (and_right (eqb (length y.0) room) (leb y.1 most) f.0), f.1)

  -- an array takes the bits of its list
  pub cells-bounded : {m : ℕ} → Bounded c m → Bounded (cells x room most fault c) m
  unfolding cells viewed
  cells-bounded bc = record { most = λ y l. bc.most (take y.1 y.0) (cells-legal y l).1 }

  -- an array takes the bits of the entries that its count says
  pub cells-counted : {m : ℕ} → Each c m → (y : List A × ℕ) → (cells x room most fault c).check y ≡ 0 → (cells x room most fault c).size y ≤ y.1 * m
  unfolding cells viewed
  cells-counted {m} ec y l =
      let k : length (take y.1 y.0) ≤ y.1 = rw length-take (omega arith) in
      omega (arith, ec.most (take y.1 y.0) (cells-legal y l).1, mul-le-mul_right m k)

  pub cells-each : {m : ℕ} → Each c m → Bounded (cells x room most fault c) (most * m)
  cells-each {m} ec = record { most = λ y l. omega (arith, cells-counted ec y l, mul-le-mul_right m (cells-legal y l).0) }
