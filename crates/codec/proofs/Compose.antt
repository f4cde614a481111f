-- How the readings, writings, checks and ends of fields make those of a group. The proofs of functions that go field by field cite the rule sets.
-- Each law's middle terms stand in a premise that a callee's contract or a pattern proves as it stands, so that `search` finds them. Assumes nothing.
use Prim.Native.Nat.{ℕ, zero, suc}
use mathlib.Core.Path.{◌≡◌, refl, ap, ap₂, sym, subst, ◌∙◌}
use mathlib.Core.Bool.{Bool, true, false}
use mathlib.Core.List.{List}
use lib.ListN.{length-append}
use native.Mathlib.Omega.{arith}
use Rattle.bits.specs.Bits.{bits_of, splice}
use Rattle.bits.specs.declared.BitPlace.{BitPlace}
use Rattle.bits.proofs.Splices.{splice-splice, splice-nil}
use Rattle.codec.specs.Answer.{got, refused, next, pick}
use Rattle.codec.specs.Codec.{Codec, first, same, must, number, nothing, ◌then_by◌, viewed, present, unless, tested, flag, ◌closed_by◌}
use Rattle.codec.specs.Refusals.{fault_no, Step, answer, answer_of, check_no}
use Rattle.codec.proofs.Told.{fault-positive, first-refusal}
use Rattle.codec.specs.declared.Fault.{Fault}
use Rattle.codec.specs.Writes.{Writes}
use Rattle.codec.specs.declared.FieldFault.{FieldFault}
use Rattle.std.specs.Prelude.{Result, Ok, Err, IsErrAnd, ⊤}
use Rattle.std.proofs.lemmas.Result.{err_from_is_err_and}

-- the reading of c at p stops, and e says where and why
pub record Stops {A : Type 0} (c : Codec A) (bs : List Bool) (p : ℕ) (e : FieldFault) : Type 0 where
  pub read : refused (fault_no e.fault) e.place.0 ≡ c.read bs p

-- c's reading gives x, and the next place is q. (An equation by its name, so that `search` does not take it for any other equation.)
pub record Gets {A : Type 0} (c : Codec A) (bs : List Bool) (p : ℕ) (x : A) (q : ℕ) : Type 0 where
  pub read : got x q ≡ c.read bs p

-- from a function's own contract, at its returns
pub ended : {A : Type 0} (c : Codec A) (bs : List Bool) (p : ℕ) (x : A) (q : BitPlace) → Gets c bs p x q.0 → answer (Ok q) x ≡ c.read bs p
unfolding answer
ended c bs p x q g = g.read

pub ended_with : {A : Type 0} (c : Codec A) (bs : List Bool) (p : ℕ) (x : A) (q : BitPlace) → Gets c bs p x q.0 → answer_of (Ok (x, q)) ≡ c.read bs p
unfolding answer_of
ended_with c bs p x q g = g.read

pub stopped : {A : Type 0} (c : Codec A) (bs : List Bool) (p : ℕ) (x : A) (e : FieldFault) → Stops c bs p e → answer (Err e) x ≡ c.read bs p
unfolding answer
stopped c bs p x e s = s.read

pub stopped_with : {A : Type 0} (c : Codec A) (bs : List Bool) (p : ℕ) (e : FieldFault) → Stops c bs p e → answer_of (Err e) ≡ c.read bs p
unfolding answer_of
stopped_with c bs p e s = s.read

-- where a `?` hands on the refusal of another function
pub handed : {A E : Type 0} (r : Result A E) (e : E) → IsErrAnd r (λ f. f ≡ e) → r ≡ Err e
handed r e h = let p = err_from_is_err_and r h in p.1 ∙ ap Err p.2

-- a part that the bits leave out: its presence, which was read, is false
pub left_out : {A : Type 0} (c : Codec A) (bs : List Bool) (p : ℕ) (f : Bool → A) (q : BitPlace) (b : Bool) → b ≡ false → answer (Ok q) (f b) ≡ c.read bs p → answer (Ok q) (f false) ≡ c.read bs p
left_out c bs p f q b e r = subst (λ (z : Bool). answer (Ok q) (f z) ≡ c.read bs p) e r

module _ (bs : List Bool) (p : ℕ) where
  -- a field that was got, where a `?` has taken it apart
  pub reading-got : {A : Type 0} (c : Codec A) (x : A) (q : BitPlace) → answer_of (Ok (x, q)) ≡ c.read bs p → Gets c bs p x q.0
  unfolding answer_of
  reading-got c x q e = record { read = e }

  pub group-got : {A : Type 0} (c : Codec A) (x : A) (q : BitPlace) → answer (Ok q) x ≡ c.read bs p → Gets c bs p x q.0
  unfolding answer
  group-got c x q e = record { read = e }

  -- a field that was refused, where a `?` hands it on
  pub reading-stop : {A : Type 0} (c : Codec A) (f : FieldFault) → answer_of (Err f) ≡ c.read bs p → Stops c bs p f
  unfolding answer_of
  reading-stop c f e = record { read = e }

  pub group-stop : {A : Type 0} (c : Codec A) (x : A) (f : FieldFault) → answer (Err f) x ≡ c.read bs p → Stops c bs p f
  unfolding answer
  group-stop c x f e = record { read = e }

  module _ {A B : Type 0} (c : Codec A) (d : A → Codec B) where
    then-got : (x : A) (y : B) (q r : ℕ) → Gets c bs p x q → Gets (d x) bs q y r → Gets (c then_by d) bs p (x, y) r
    unfolding next ◌then_by◌
    then-got x y q r g h = record { read = rw (← g.read, ← h.read) }

    then-stop : (x : A) (q : ℕ) (f : FieldFault) → Gets c bs p x q → Stops (d x) bs q f → Stops (c then_by d) bs p f
    unfolding next ◌then_by◌
    then-stop x q f g s = record { read = rw (← g.read, ← s.read) }

    -- the first of the fields stops
    pub here-stop : (f : FieldFault) → Stops c bs p f → Stops (c then_by d) bs p f
    unfolding next ◌then_by◌
    here-stop f s = record { read = rw (← s.read) }

    -- past a field, with others to come
    pub group-then : (x : A) (y : B) (q : BitPlace) (r : ℕ) → answer (Ok q) x ≡ c.read bs p → Gets (d x) bs q.0 y r → Gets (c then_by d) bs p (x, y) r
    group-then x y q r e h = then-got x y q.0 r (group-got c x q e) h

    pub group-then-stop : (f : FieldFault) (x : A) (q : BitPlace) → answer (Ok q) x ≡ c.read bs p → Stops (d x) bs q.0 f → Stops (c then_by d) bs p f
    group-then-stop f x q e h = then-stop x q.0 f (group-got c x q e) h

    pub reading-then : (x : A) (y : B) (q : BitPlace) (r : ℕ) → answer_of (Ok (x, q)) ≡ c.read bs p → Gets (d x) bs q.0 y r → Gets (c then_by d) bs p (x, y) r
    reading-then x y q r e h = then-got x y q.0 r (reading-got c x q e) h

    pub reading-then-stop : (f : FieldFault) (x : A) (q : BitPlace) → answer_of (Ok (x, q)) ≡ c.read bs p → Stops (d x) bs q.0 f → Stops (c then_by d) bs p f
    reading-then-stop f x q e h = then-stop x q.0 f (reading-got c x q e) h

  -- in another shape
  module _ {A B : Type 0} (to : A → B) (from : B → A) (clean : B → B) (fine : B → Bool) (fault : ℕ) (c : Codec A) where
    pub shape-got : (y : B) (q : ℕ) → Gets c bs p (from y) q → to (from y) ≡ y → Gets (viewed to from clean fine fault c) bs p y q
    unfolding next viewed
    shape-got y q g e = record { read = rw (← g.read, e) }

    pub shape-stop : (f : FieldFault) → Stops c bs p f → Stops (viewed to from clean fine fault c) bs p f
    unfolding next viewed
    shape-stop f s = record { read = rw (← s.read) }

  -- with a test behind it
  module _ {A : Type 0} (test : A → Bool) (fault : ℕ) (c : Codec A) where
    pub tested-stop : (f : FieldFault) → Stops c bs p f → Stops (tested test fault c) bs p f
    unfolding next tested
    tested-stop f s = record { read = rw (← s.read) }

    pub tested-refused : (x : A) (q : ℕ) → Gets c bs p x q → test x ≡ false → refused fault p ≡ (tested test fault c).read bs p
    unfolding next tested
    tested-refused x q g t = rw (← g.read, t)

    pub tested-got : (x : A) (q : ℕ) → Gets c bs p x q → test x ≡ true → Gets (tested test fault c) bs p x q
    unfolding next tested
    tested-got x q g t = record { read = rw (← g.read, t) }

  -- where a presence bit says that it is there, and where not
  module _ {A : Type 0} (x : A) (c : Codec A) (b : Bool) where
    pub present-got : (y : A) (q : ℕ) → b ≡ true → Gets c bs p y q → Gets (present x c b) bs p y q
    unfolding present
    present-got y q e g = rw e g

    pub absent-got : b ≡ false → Gets (present x c b) bs p x p
    unfolding present nothing
    absent-got e = rw e (record { read = refl })

    pub present-stop : (f : FieldFault) → b ≡ true → Stops c bs p f → Stops (present x c b) bs p f
    unfolding present
    present-stop f e s = rw e s

pub ruleset getting = (ended, ended_with, reading-got, group-got, group-then, reading-then, shape-got, present-got, absent-got)

pub ruleset stopping = (stopped, stopped_with, reading-stop, group-stop, here-stop, group-then-stop, reading-then-stop, shape-stop, tested-stop, present-stop)

pub ruleset reading = (getting, stopping)

-- writing
module _ {A B : Type 0} (c : Codec A) (d : A → Codec B) where
  pub then-writes : (xy : A × B) (s t u : List ℕ) (p q r : ℕ) → Writes c xy.0 s t p q → Writes (d xy.0) xy.1 t u q r → Writes (c then_by d) xy s u p r
  unfolding ◌then_by◌
  then-writes xy s t u p q r e f =
      let a = c.write xy.0 in
      let b = (d xy.0).write xy.1 in
      record {
        bits = f.bits ∙ ap₂ (λ (z : List Bool) (n : ℕ). splice z n b) e.bits e.ends ∙ splice-splice (bits_of s) p a b;
        ends = rw length-append (omega (arith, e.ends, f.ends));
        next = omega (arith, e.next, f.next);
      }

module _ {A B : Type 0} (to : A → B) (from : B → A) (clean : B → B) (fine : B → Bool) (fault : ℕ) (c : Codec A) where
  pub shape-writes : (y : B) (s t : List ℕ) (p q : ℕ) → Writes c (from y) s t p q → Writes (viewed to from clean fine fault c) y s t p q
  unfolding viewed
  shape-writes y s t p q e = record { bits = e.bits; ends = e.ends; next = e.next }

pub nothing-writes : {A : Type 0} (x y : A) (s : List ℕ) (p : ℕ) → Writes (nothing x) y s s p p
unfolding nothing
nothing-writes x y s p = record { bits = sym (splice-nil (bits_of s) p); ends = omega arith; next = omega arith }

module _ {A : Type 0} (x : A) (c : Codec A) (b : Bool) where
  pub present-writes : (y : A) (s t : List ℕ) (p q : ℕ) → b ≡ true → Writes c y s t p q → Writes (present x c b) y s t p q
  unfolding present
  present-writes y s t p q e w = rw e w

  pub absent-writes : (y : A) (s : List ℕ) (p : ℕ) → b ≡ false → Writes (present x c b) y s s p p
  unfolding present
  absent-writes y s p e = rw e (nothing-writes x y s p)

  pub present-size : (y : A) → b ≡ true → (present x c b).size y ≡ c.size y
  unfolding present
  present-size y e = rw e

  pub absent-size : (y : A) → b ≡ false → (present x c b).size y ≡ 0
  unfolding present nothing
  absent-size y e = rw e

  pub present-check : (y : A) (n : ℕ) → b ≡ true → n ≡ c.check y → n ≡ (present x c b).check y
  unfolding present
  present-check y n e h = rw e h

  pub absent-check : (y : A) → b ≡ false → 0 ≡ (present x c b).check y
  unfolding present nothing
  absent-check y e = rw e

pub tested-writes : {A : Type 0} (test : A → Bool) (fault : ℕ) (c : Codec A) (y : A) (s t : List ℕ) (p q : ℕ) → Writes c y s t p q → Writes (tested test fault c) y s t p q
unfolding tested
tested-writes test fault c y s t p q e = record { bits = e.bits; ends = e.ends; next = e.next }

-- past a field that has to pass a test
pub tested-then-writes : {A B : Type 0} (test : A → Bool) (fault : ℕ) (c : Codec A) (d : A → Codec B) (xy : A × B) (s t u : List ℕ) (p q r : ℕ) → Writes c xy.0 s t p q → Writes (d xy.0) xy.1 t u q r → Writes (tested test fault c then_by d) xy s u p r
tested-then-writes test fault c d xy s t u p q r e f = then-writes (tested test fault c) d xy s t u p q r (tested-writes test fault c xy.0 s t p q e) f

-- the closing bit is 0
pub closed-writes : {A : Type 0} (c : Codec A) (fault : ℕ) (y : A) (s t u : List ℕ) (p q r : ℕ) → Writes c y s t p q → Writes flag false t u q r → Writes (c closed_by fault) y s u p r
unfolding ◌closed_by◌
closed-writes c fault y s t u p q r e f =
    shape-writes _ _ _ _ _ _ y s u p r (then-writes c (λ x. must false fault) (y, false) s t u p q r e (tested-writes (λ x. same x false) fault flag false t u q r f))

-- a number's bits depend on its width alone, not on which numbers are legal nor on how others are refused
pub number-writes : (w lo hi f least most g : ℕ) (v : ℕ) (s t : List ℕ) (p q : ℕ) → Writes (number w lo hi f) v s t p q → Writes (number w least most g) v s t p q
unfolding number
number-writes w lo hi f least most g v s t p q e = record { bits = e.bits; ends = e.ends; next = e.next }

pub ruleset writing = (then-writes, shape-writes, present-writes, absent-writes, tested-writes, tested-then-writes)

-- checks: past a field that has no fault, and where a `?` hands on the fault of one
module _ {A B : Type 0} (c : Codec A) (d : A → Codec B) where
  pub then-checks : (xy : A × B) (r : ℕ) → check_no {A = ⊤} (Ok tt) ≡ c.check xy.0 → r ≡ (d xy.0).check xy.1 → r ≡ (c then_by d).check xy
  unfolding ◌then_by◌ check_no first
  then-checks xy r h k = rw (← h) k

  pub here-checks : (xy : A × B) (f : Fault) → check_no {A = ⊤} (Err f) ≡ c.check xy.0 → check_no {A = ⊤} (Err f) ≡ (c then_by d).check xy
  unfolding ◌then_by◌ check_no
  here-checks xy f h = rw (← h) (first-refusal (fault_no f) ((d xy.0).check xy.1) (fault-positive f))

-- a flag has no fault of its own
pub flag-checks : {B : Type 0} (d : Bool → Codec B) (xy : Bool × B) (r : ℕ) → r ≡ (d xy.0).check xy.1 → r ≡ (flag then_by d).check xy
unfolding ◌then_by◌ flag first
flag-checks d xy r e = e

module _ {A B : Type 0} (to : A → B) (from : B → A) (clean : B → B) (c : Codec A) where
  pub shape-checks : (y : B) (r : ℕ) → r ≡ c.check (from y) → r ≡ (viewed to from clean (λ y. true) 0 c).check y
  unfolding viewed
  shape-checks y r e = e

-- the closing bit has no cell, and so no fault
pub closed-checks : {A : Type 0} (c : Codec A) (fault : ℕ) (y : A) (r : ℕ) → r ≡ c.check y → r ≡ (c closed_by fault).check y
unfolding ◌closed_by◌ viewed ◌then_by◌ tested flag first
closed-checks c fault y r e = e ∙ go (c.check y)
  where
    go : (n : ℕ) → n ≡ first n 0
    go zero = refl
    go (suc n) = refl

pub ruleset checking = (then-checks, here-checks, flag-checks, shape-checks, closed-checks, present-check, absent-check)

-- a field that an edition may lack: where it has it, and where it lacks it
module _ {A : Type 0} (lacking : Bool) (x : A) (there : A → Bool) (fault : ℕ) (c : Codec A) where
  module _ (e : lacking ≡ false) where
    pub had-read : (bs : List Bool) (p : ℕ) (st : Step) (y : A) → answer st y ≡ c.read bs p → answer st y ≡ (unless lacking x there fault c).read bs p
    unfolding unless
    had-read bs p st y h = rw e h

    pub had-check : (y : A) (n : ℕ) → n ≡ c.check y → n ≡ (unless lacking x there fault c).check y
    unfolding unless
    had-check y n h = rw e h

    pub had-size : (y : A) → (unless lacking x there fault c).size y ≡ c.size y
    unfolding unless
    had-size y = rw e

    pub had-writes : (y : A) (s t : List ℕ) (p q : ℕ) → Writes c y s t p q → Writes (unless lacking x there fault c) y s t p q
    unfolding unless
    had-writes y s t p q w = record { bits = rw e w.bits; ends = rw e w.ends; next = rw e w.next }

  module _ (e : lacking ≡ true) where
    pub lacked-read : (bs : List Bool) (q : BitPlace) → answer (Ok q) x ≡ (unless lacking x there fault c).read bs q.0
    unfolding unless answer
    lacked-read bs q = rw e

    -- a value that is there is refused
    pub lacked-check : (y : A) (b : Bool) → there y ≡ b → pick b fault 0 ≡ (unless lacking x there fault c).check y
    unfolding unless
    lacked-check y b t = rw (e, t)

    pub lacked-size : (y : A) → (unless lacking x there fault c).size y ≡ 0
    unfolding unless
    lacked-size y = rw e

    pub lacked-writes : (y : A) (s : List ℕ) (p : ℕ) → Writes (unless lacking x there fault c) y s s p p
    unfolding unless nothing
    lacked-writes y s p = let w = nothing-writes x y s p in record { bits = rw e w.bits; ends = rw e w.ends; next = rw e w.next }
