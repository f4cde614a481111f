-- How readings into octets make the reading of a group. The proofs of functions that go field by field cite the rule set. Assumes nothing.
use Prim.Native.Nat.{ℕ}
use mathlib.Core.Path.{◌≡◌, ap, ◌∙◌}
use mathlib.Core.Bool.{Bool, true}
use mathlib.Core.List.{List}
use Rattle.bits.specs.declared.BitPlace.{BitPlace}
use Rattle.codec.specs.Answer.{next}
use Rattle.codec.specs.Codec.{Codec, ◌then_by◌, viewed, present}
use Rattle.codec.specs.Refusals.{Step, Reading, answer, answer_of}
use Rattle.codec.specs.declared.FieldFault.{FieldFault}
use Rattle.codec.proofs.Compose.{Gets, Stops, handed, stopped, group-got, reading-got}
use Rattle.std.specs.Prelude.{Ok, Err, OnOk, IsErrAnd}
use Rattle.std.proofs.lemmas.Result.{on_ok_weaker}
use Rattle.into.specs.Into.{Into, IntoTelling}

-- the last step of a group says how the group's reading ends, with x beside it
pub record Tells {A : Type 0} (c : Codec A) (bs : List Bool) (p : ℕ) (st : Step) (x : A) : Type 0 where
  pub read : answer st x ≡ c.read bs p

module _ (bs : List Bool) (p : ℕ) where
  pub tells-here : {A : Type 0} (c : Codec A) (st : Step) (x : A) → answer st x ≡ c.read bs p → Tells c bs p st x
  tells-here c st x e = record { read = e }

  module _ {A B : Type 0} (c : Codec A) (d : A → Codec B) where
    tells-then : (x : A) (y : B) (q : ℕ) (st : Step) → Gets c bs p x q → Tells (d x) bs q st y → Tells (c then_by d) bs p st (x, y)
    unfolding next ◌then_by◌ answer
    tells-then x y q (Ok r) g h = record { read = rw (← g.read, ← h.read) }
    tells-then x y q (Err e) g h = record { read = rw (← g.read, ← h.read) }

    pub tells-group-then : (st : Step) (x : A) (y : B) (q : BitPlace) → answer (Ok q) x ≡ c.read bs p → Tells (d x) bs q.0 st y → Tells (c then_by d) bs p st (x, y)
    tells-group-then st x y q e h = tells-then x y q.0 st (group-got bs p c x q e) h

    pub tells-reading-then : (st : Step) (x : A) (y : B) (q : BitPlace) → answer_of (Ok (x, q)) ≡ c.read bs p → Tells (d x) bs q.0 st y → Tells (c then_by d) bs p st (x, y)
    tells-reading-then st x y q e h = tells-then x y q.0 st (reading-got bs p c x q e) h

  -- behind a number, and behind a flag
  module _ {B : Type 0} (c : Codec ℕ) (d : ℕ → Codec B) where
    pub tells-number-then : (st : Step) (x : ℕ) (y : B) (q : BitPlace) → answer_of (Ok (x, q)) ≡ c.read bs p → Tells (d x) bs q.0 st y → Tells (c then_by d) bs p st (x, y)
    tells-number-then = tells-reading-then c d

  module _ {B : Type 0} (c : Codec Bool) (d : Bool → Codec B) where
    pub tells-flag-then : (st : Step) (x : Bool) (y : B) (q : BitPlace) → answer_of (Ok (x, q)) ≡ c.read bs p → Tells (d x) bs q.0 st y → Tells (c then_by d) bs p st (x, y)
    tells-flag-then = tells-reading-then c d

  module _ {A B : Type 0} (to : A → B) (from : B → A) (clean : B → B) (fine : B → Bool) (fault : ℕ) (c : Codec A) where
    pub tells-shape : (st : Step) (y : B) → Tells c bs p st (from y) → to (from y) ≡ y → Tells (viewed to from clean fine fault c) bs p st y
    unfolding next viewed answer
    tells-shape (Ok r) y h e = record { read = rw (← h.read, e) }
    tells-shape (Err f) y h e = record { read = rw (← h.read) }

  module _ {A : Type 0} (x : A) (c : Codec A) (b : Bool) where
    pub tells-present : (st : Step) (y : A) → b ≡ true → Tells c bs p st y → Tells (present x c b) bs p st y
    unfolding present
    tells-present st y e h = rw e h

pub ruleset telling = (tells-here, tells-group-then, tells-reading-then, tells-shape, tells-present)

-- ---- the contract of a reading into octets

module _ {A : Type 0} {c : Codec A} {to : A → List ℕ} {Typed : A → Type 0} {bs : List Bool} {p : ℕ} {after : List ℕ} where
  -- a refusal that a `?` hands on; what was read is not looked at
  pub into-stop : (z : A) (st : Step) (e : FieldFault) → IsErrAnd st (λ f. f ≡ e) → Stops c bs p e → Into c to Typed bs p st after
  into-stop z st e h s = rw (handed st e h) (record { value = z; told = stopped c bs p z e s; held = tt })

  -- another name of the same codec
  pub into-as : (d : Codec A) (st : Step) → c ≡ d → Into c to Typed bs p st after → Into d to Typed bs p st after
  into-as d st e i = record { value = i.value; told = i.told ∙ ap (λ (k : Codec A). k.read bs p) e; held = i.held }

  -- the group's last field, and what is known of the octets where it was read
  pub into-tell : {P : Type 0} (x : A) (st : Step) → Tells c bs p st x → OnOk st P → (P → (after ≡ to x) × Typed x) → Into c to Typed bs p st after
  into-tell x st t h f = record { value = x; told = t.read; held = on_ok_weaker st f h }

  -- behind which a bit without a cell is read
  pub into-closed : (x : A) (st : Step) → Tells c bs p st x → (after ≡ to x) × Typed x → Into c to Typed bs p st after
  into-closed x st t h = record { value = x; told = t.read; held = always st h }
    where
      always : {P : Type 0} (u : Step) → P → OnOk u P
      always (Ok q) k = k
      always (Err e) k = tt

  -- all of it read
  pub into-got : (x : A) (q : BitPlace) → answer (Ok q) x ≡ c.read bs p → after ≡ to x → Typed x → Into c to Typed bs p (Ok q) after
  into-got x q t e y = record { value = x; told = t; held = (e, y) }

module _ {A B : Type 0} {c : Codec A} {tells : A → B} {to : A → List ℕ} {Typed : A → Type 0} {bs : List Bool} {p : ℕ} {after : List ℕ} where
  pub telling-stop : (z : A) (r : Reading B) (e : FieldFault) → IsErrAnd r (λ f. f ≡ e) → Stops c bs p e → IntoTelling c tells to Typed bs p r after
  telling-stop z r e h s = rw (handed r e h) (record { value = z; told = stopped c bs p z e s; held = tt })

  pub telling-got : (x : A) (n : B) (q : BitPlace) → answer (Ok q) x ≡ c.read bs p → tells x ≡ n → after ≡ to x → Typed x → IntoTelling c tells to Typed bs p (Ok (n, q)) after
  telling-got x n q t m e y = record { value = x; told = t; held = (m, e, y) }
