-- Lists with recurrence bits, and lists in the cells of an array, have a codec's laws, for any lawful entry. Assumes nothing.
use Prim.Native.Nat.{ℕ, zero, suc, ◌-◌, ◌<◌, ◌≤◌}
use mathlib.Core.Path.{◌≡◌, refl, ap, ap₂, sym, ◌∙◌}
use mathlib.Core.Bool.{Bool, true, false, ◌&&◌}
use mathlib.Core.List.{List, [], ◌∷◌, ◌++◌, map}
use lib.ListN.{length, take, replicate, length-append, length-take}
use lib.Seq.{take-append_seam, take_at, length-take-le}
use lib.Dec.{leb, eqb, lit<}
use borrow.Author.Tests.{eqb-true, eq-eqb, leb-true, le-leb}
use native.Mathlib.Omega.{arith}
use Rattle.codec.specs.Answer.{pick}
use Rattle.codec.specs.Codec.{Codec, flag, nothing, first, ◌then_by◌, ◌&◌, present, viewed, tested}
use Rattle.codec.specs.Lists.{non_empty, recurs, joined, apart, entries, listed, cells}
use Rattle.codec.proofs.Lawful.{Lawful}
use Rattle.codec.proofs.Fields.{flag-lawful, nothing_lawful, and_left, and_right}
use Rattle.codec.proofs.Sequences.{then_by-lawful, and-lawful, present-lawful, first-zero}
use Rattle.codec.proofs.Views.{viewed-lawful, must-lawful}

-- a value that is not fine is refused
pub fine-legal : (b : Bool) (n fault : ℕ) → 0 < fault → pick b n fault ≡ 0 → (b ≡ true) × (n ≡ 0)
fine-legal true n fault h e = (refl, e)
fine-legal false n fault h e = absurd (omega arith)

pub length-map : {A B : Type 0} (f : A → B) (l : List A) → length (map f l) ≡ length l
length-map f [] = refl
length-map f (x ∷ l) = ap suc (length-map f l)

pub length-replicate : {A : Type 0} (n : ℕ) (x : A) → length (replicate n x) ≡ n
length-replicate zero x = refl
length-replicate (suc n) x = ap suc (length-replicate n x)

some-map : {A B : Type 0} (f : A → B) (l : List A) → non_empty (map f l) ≡ non_empty l
some-map f [] = refl
some-map f (x ∷ l) = refl

pub recurs-lawful : (n : ℕ) → Lawful (recurs n)
unfolding recurs
recurs-lawful zero = must-lawful false 5 (lit< tt)
recurs-lawful (suc n) = flag-lawful

pub recurs-norm : (n : ℕ) (b : Bool) → (recurs n).norm b ≡ b
unfolding recurs tested flag
recurs-norm zero b = refl
recurs-norm (suc n) b = refl

module _ {A : Type 0} (x : A) (c : Codec A) (lc : Lawful c) where
  -- an entry, and the others where its recurrence bit says so
  module _ (bit : Codec Bool) (rest : Codec (List A)) (lb : Lawful bit) (bn : (b : Bool) → bit.norm b ≡ b) (lr : Lawful rest)
      (others : bit.check true ≡ 0 → (ys : List A) → rest.check ys ≡ 0 → non_empty ys ≡ true)
      (mapped : bit.check true ≡ 0 → (ys : List A) → rest.norm ys ≡ map c.norm ys)
      (judged : (ys : List A) → rest.check (map c.norm ys) ≡ rest.check ys) where
    abbrev parts : Codec ((Bool × A) × List A)
    parts = (bit & c) then_by (λ e. present [] rest e.0)

    entries-back : (z : (Bool × A) × List A) → parts.check z ≡ 0 → parts.norm z ≡ z → apart x (joined z) ≡ z
    unfolding ◌then_by◌ present nothing
    entries-back z l n = go z.0.0 z.0.1 z.1 l n
      where
        go : (b : Bool) (y : A) (ys : List A) → parts.check ((b, y), ys) ≡ 0 → parts.norm ((b, y), ys) ≡ ((b, y), ys) → ◌≡◌ {A = (Bool × A) × List A} ((non_empty ys, y), ys) ((b, y), ys)
        go true y ys l n =
            let m = first-zero (first (bit.check true) (c.check y)) (rest.check ys) l in
            let k = first-zero (bit.check true) (c.check y) m.0 in
            rw (others k.0 ys m.1)
        go false y ys l n =
            let e : [] ≡ ys = ap (λ (w : (Bool × A) × List A). w.1) n in
            rw (← e)

    entries-clean : (ys : List A) → pick (non_empty ys) (parts.check (apart x ys)) 5 ≡ 0 → map c.norm ys ≡ joined (parts.norm (apart x ys))
    unfolding ◌then_by◌ present nothing
    entries-clean [] l = absurd (omega arith)
    entries-clean (y ∷ []) l = refl
    entries-clean (y ∷ z ∷ ys) l =
        let m = first-zero (first (bit.check true) (c.check y)) (rest.check (z ∷ ys)) l in
        let k = first-zero (bit.check true) (c.check y) m.0 in
        ap (λ (l : List A). c.norm y ∷ l) (sym (mapped k.0 (z ∷ ys)))

    entries-judged : (ys : List A) → pick (non_empty (map c.norm ys)) (parts.check (apart x (map c.norm ys))) 5 ≡ pick (non_empty ys) (parts.check (apart x ys)) 5
    unfolding ◌then_by◌ present nothing
    entries-judged [] = refl
    entries-judged (y ∷ []) = rw (lc.judged y)
    entries-judged (y ∷ z ∷ ys) = ap₂ first (ap (first (bit.check true)) (lc.judged y)) (judged (z ∷ ys))

    entries-lawful : Lawful (entries x c bit rest)
    unfolding ◌then_by◌
    entries-lawful =
        viewed-lawful joined (apart x) (map c.norm) non_empty 5 parts
        (then_by-lawful (bit & c) (λ e. present [] rest e.0) (and-lawful lb lc) (λ e. present-lawful [] lr e.0) (λ e l. same_bit e))
        entries-back
        (λ z l. refl)
        (λ ys l. (fine-legal (non_empty ys) _ 5 (lit< tt) l).1)
        entries-clean
        entries-judged
      where
        same_bit : (e : Bool × A) → present [] rest ((bit & c).norm e).0 ≡ present [] rest e.0
        same_bit e = ap (present [] rest) (bn e.0)

  listed-some : (n : ℕ) (ys : List A) → (listed x c n).check ys ≡ 0 → non_empty ys ≡ true
  unfolding listed viewed
  listed-some zero [] l = absurd (omega arith)
  listed-some zero (y ∷ ys) l = refl
  listed-some (suc n) [] l = absurd (omega arith)
  listed-some (suc n) (y ∷ ys) l = refl

  listed-norm : (n : ℕ) (ys : List A) → (listed x c n).norm ys ≡ map c.norm ys
  unfolding listed viewed
  listed-norm zero ys = refl
  listed-norm (suc n) ys = refl

  pub listed-lawful : (n : ℕ) → Lawful (listed x c n)
  unfolding listed recurs tested flag nothing first
  listed-lawful zero =
      entries-lawful (recurs zero) (nothing []) (recurs-lawful zero) (recurs-norm zero) (nothing_lawful [])
      (λ l. absurd (omega arith)) (λ l. absurd (omega arith)) (λ ys. refl)
  listed-lawful (suc n) =
      entries-lawful (recurs (suc n)) (listed x c n) (recurs-lawful (suc n)) (recurs-norm (suc n)) (listed-lawful n)
      (λ l ys. listed-some n ys) (λ l ys. listed-norm n ys) (λ ys. ap (listed x c n).check (sym (listed-norm n ys)) ∙ (listed-lawful n).judged ys)

  -- a legal list has at most n + 1 entries
  pub listed-length : (n : ℕ) (ys : List A) → (listed x c n).check ys ≡ 0 → length ys ≤ suc n
  unfolding listed viewed ◌then_by◌ present nothing recurs tested flag first
  listed-length zero [] l = omega arith
  listed-length zero (y ∷ []) l = omega arith
  listed-length zero (y ∷ z ∷ ys) l = absurd (omega arith)
  listed-length (suc n) [] l = omega arith
  listed-length (suc n) (y ∷ []) l = omega arith
  listed-length (suc n) (y ∷ z ∷ ys) l = omega (arith, listed-length n (z ∷ ys) (first-zero (c.check y) ((listed x c n).check (z ∷ ys)) l).1)

  pub listed-keeps : (n : ℕ) (ys : List A) → length ((listed x c n).norm ys) ≡ length ys
  listed-keeps n ys = ap length (listed-norm n ys) ∙ length-map c.norm ys

-- in an array: the list's normal form keeps its length, and no legal list is longer than the array
module _ {A : Type 0} (x : A) (room most fault : ℕ) (c : Codec (List A)) (lc : Lawful c) (hf : 0 < fault) (fits : most ≤ room)
    (keeps : (xs : List A) → length (c.norm xs) ≡ length xs) (short : (xs : List A) → c.check xs ≡ 0 → length xs ≤ most) where
  abbrev fine : List A × ℕ → Bool
  fine y = eqb (length y.0) room && leb y.1 most

  made-length : (xs : List A) → length xs ≤ room → length (xs ++ replicate (room - length xs) x) ≡ room
  made-length xs h = length-append xs (replicate (room - length xs) x) ∙ rw length-replicate (omega arith)

  clean-length : (l : List A) (k : ℕ) → length (c.norm (take k l) ++ replicate (length l - k) x) ≡ length l
  clean-length l k =
      length-append (c.norm (take k l)) (replicate (length l - k) x) ∙ rw (keeps (take k l), length-replicate, length-take) (omega arith)

  used : (y : List A × ℕ) → fine y ≡ true → length (take y.1 y.0) ≡ y.1
  used y e =
      let a = eqb-true (length y.0) room (and_left (eqb (length y.0) room) (leb y.1 most) e) in
      let b = leb-true y.1 most (and_right (eqb (length y.0) room) (leb y.1 most) e) in
      length-take-le y.1 y.0 (omega arith)

  cells-clean : (y : List A × ℕ) → pick (fine y) (c.check (take y.1 y.0)) fault ≡ 0 → ◌≡◌ {A = List A × ℕ} (c.norm (take y.1 y.0) ++ replicate (length y.0 - y.1) x, y.1) (c.norm (take y.1 y.0) ++ replicate (room - length (c.norm (take y.1 y.0))) x, length (c.norm (take y.1 y.0)))
  cells-clean y l =
      let f = (fine-legal (fine y) (c.check (take y.1 y.0)) fault hf l).0 in
      let a = eqb-true (length y.0) room (and_left (eqb (length y.0) room) (leb y.1 most) f) in
      let k : length (c.norm (take y.1 y.0)) ≡ y.1 = keeps (take y.1 y.0) ∙ used y f in
      rw (k, a)

  cells-judged : (y : List A × ℕ) (b : Bool) → fine y ≡ b → pick b (c.check (take y.1 (c.norm (take y.1 y.0) ++ replicate (length y.0 - y.1) x))) fault ≡ pick b (c.check (take y.1 y.0)) fault
  cells-judged y true e =
      let k : length (c.norm (take y.1 y.0)) ≡ y.1 = keeps (take y.1 y.0) ∙ used y e in
      ap c.check (take_at (c.norm (take y.1 y.0)) (replicate (length y.0 - y.1) x) y.1 k) ∙ lc.judged (take y.1 y.0)
  cells-judged y false e = refl

  pub cells-lawful : Lawful (cells x room most fault c)
  unfolding cells
  cells-lawful =
      viewed-lawful _ _ _ fine fault c lc
      (λ xs l m. take-append_seam xs (replicate (room - length xs) x))
      (λ xs l.
      let h = short xs l in
      rw (made-length xs (omega arith), eq-eqb room room refl) (le-leb (length xs) most h))
      (λ y l. (fine-legal (fine y) _ fault hf l).1)
      cells-clean
      (λ y. rw (clean-length y.0 y.1) (cells-judged y (fine y) refl))

-- an array's length, from what owning it tells
pub unmapped : (X Y : Type 0) (f : X → Y) (l : List X) (n : ℕ) → length (map f l) ≡ n → length l ≡ n
unmapped X Y f l n e = sym (length-map f l) ∙ e
