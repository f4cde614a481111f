-- One field behind another, also one that depends on it, and a field that may be absent, have a codec's laws. Assumes nothing.
use Prim.Native.Nat.{ℕ, zero, suc, ◌+◌}
use mathlib.Core.Path.{◌≡◌, refl, ap₂, ◌∙◌, subst₂}
use mathlib.Core.Bool.{Bool, true, false}
use mathlib.Core.List.{List, ◌++◌, append_assoc}
use lib.ListN.{length, drop, length-append}
use native.Mathlib.Nat.{add_assoc}
use native.Mathlib.Omega.{arith}
use Rattle.codec.specs.Answer.{Answer, got, refused, next}
use Rattle.codec.specs.Codec.{Codec, flag, first, ◌then_by◌, ◌&◌, present, optional}
use Rattle.codec.proofs.Lawful.{Accepted, Lawful, behind, never}
use Rattle.codec.proofs.Fields.{flag-lawful, nothing_lawful}

pub first-zero : (f g : ℕ) → first f g ≡ 0 → (f ≡ 0) × (g ≡ 0)
unfolding first
first-zero zero g e = (refl, e)
first-zero (suc f) g e = absurd (omega arith)

-- what follows the first refusal matters only where there is none
pub first-same : (f g h : ℕ) → (f ≡ 0 → g ≡ h) → first f g ≡ first f h
unfolding first
first-same zero g h e = e refl
first-same (suc f) g h e = refl

-- d may look at a legal x, but not at its unused cells
module _ {A B : Type 0} (c : Codec A) (d : A → Codec B) (lc : Lawful c) (ld : (x : A) → Lawful (d x)) (dn : (x : A) → c.check x ≡ 0 → d (c.norm x) ≡ d x) where
  then_by-written : (bs rest : List Bool) (p : ℕ) (xy : A × B) → (c then_by d).check xy ≡ 0 → drop p bs ≡ (c then_by d).write xy ++ rest → (c then_by d).read bs p ≡ got ((c then_by d).norm xy) (p + length ((c then_by d).write xy))
  unfolding next ◌then_by◌
  then_by-written bs rest p xy l e =
      let x = xy.0 in
      let y = xy.1 in
      let z = first-zero (c.check x) ((d x).check y) l in
      let h : drop p bs ≡ c.write x ++ ((d x).write y ++ rest) = e ∙ append_assoc (c.write x) ((d x).write y) rest in
      let k : drop (p + length (c.write x)) bs ≡ (d x).write y ++ rest = behind bs (c.write x) ((d x).write y ++ rest) p h in
      rw (lc.written bs ((d x).write y ++ rest) p x z.0 h, dn x z.0, (ld x).written bs rest (p + length (c.write x)) y z.1 k, length-append, add_assoc)

  then_by-second : (bs : List Bool) (p q r : ℕ) (x : A) (xy : A × B) → Accepted c bs p r x → (a : Answer B) → (d x).read bs r ≡ a → next a (λ y t. got (x, y) t) ≡ got xy q → Accepted (c then_by d) bs p q xy
  unfolding next ◌then_by◌ first
  then_by-second bs p q r x xy h (refused f t) ea e = absurd (never e)
  then_by-second bs p q r x xy h (got y t) ea e =
      let k = (ld x).accepted bs r t y ea in
      let exy : (x, y) ≡ xy = cc in
      let eq : t ≡ q = cc in
      let s : Accepted (c then_by d) bs p t (x, y) =
      record {
        legal = rw h.legal k.legal;
        clean = rw (h.clean, k.clean);
        same = h.same ∙ rw (k.same, append_assoc);
        ends = rw length-append (omega arith);
      }
      in subst₂ (λ z u. Accepted (c then_by d) bs p u z) exy eq s

  then_by-first : (bs : List Bool) (p q : ℕ) (xy : A × B) (a : Answer A) → c.read bs p ≡ a → next a (λ x r. next ((d x).read bs r) (λ y t. got (x, y) t)) ≡ got xy q → Accepted (c then_by d) bs p q xy
  unfolding next
  then_by-first bs p q xy (refused f t) ea e = absurd (never e)
  then_by-first bs p q xy (got x r) ea e = then_by-second bs p q r x xy (lc.accepted bs p r x ea) ((d x).read bs r) refl e

  then_by-judged : (x : A) (y : B) → first (c.check (c.norm x)) ((d (c.norm x)).check ((d x).norm y)) ≡ first (c.check x) ((d x).check y)
  then_by-judged x y = rw (lc.judged x) (first-same (c.check x) _ _ (λ z. rw (dn x z) ((ld x).judged y)))

  pub then_by-lawful : Lawful (c then_by d)
  unfolding ◌then_by◌
  then_by-lawful =
      record {
        written = then_by-written;
        accepted = λ bs p q xy e. then_by-first bs p q xy (c.read bs p) refl e;
        judged = λ xy. then_by-judged xy.0 xy.1;
        sized = λ xy. length-append (c.write xy.0) ((d xy.0).write xy.1) ∙ ap₂ ◌+◌ (lc.sized xy.0) ((ld xy.0).sized xy.1);
      }

pub and-lawful : {A B : Type 0} {c : Codec A} {d : Codec B} → Lawful c → Lawful d → Lawful (c & d)
and-lawful {c = c} {d = d} lc ld = then_by-lawful c (λ x. d) lc (λ x. ld) (λ x l. refl)

pub present-lawful : {A : Type 0} (x : A) {c : Codec A} → Lawful c → (b : Bool) → Lawful (present x c b)
unfolding present
present-lawful x lc true = lc
present-lawful x lc false = nothing_lawful x

pub optional-lawful : {A : Type 0} (x : A) {c : Codec A} → Lawful c → Lawful (optional x c)
unfolding flag
optional-lawful x {c} lc = then_by-lawful flag (present x c) flag-lawful (present-lawful x lc) (λ b l. refl)
