-- A codec seen in the cells of another type, in another shape, with a test behind it, or lacking in an edition has a codec's laws. Assumes nothing.
use Prim.Native.Nat.{ℕ, ◌+◌, ◌<◌}
use native.Mathlib.Omega.{arith}
use mathlib.Core.Path.{◌≡◌, refl, ap, ap₂, ◌∙◌, sym, subst⁻¹, subst₂}
use mathlib.Core.Bool.{Bool, true, false}
use mathlib.Core.List.{List, ◌++◌}
use lib.ListN.{length, drop}
use Rattle.codec.specs.Answer.{Answer, got, refused, next, pick}
use Rattle.codec.specs.Codec.{Codec, flag, first, ◌then_by◌, ◌&◌, viewed, shaped, tested, unless, same, must, ◌closed_by◌}
use Rattle.codec.proofs.Lawful.{Accepted, Lawful, never}
use Rattle.codec.proofs.Fields.{flag-lawful, passed}
use Rattle.codec.proofs.Sequences.{first-zero, and-lawful}

module _ {A B : Type 0} (to : A → B) (from : B → A) (clean : B → B) (fine : B → Bool) (fault : ℕ) (c : Codec A) (lc : Lawful c)
    (back : (x : A) → c.check x ≡ 0 → c.norm x ≡ x → from (to x) ≡ x)
    (made : (x : A) → c.check x ≡ 0 → fine (to x) ≡ true)
    (legal : (y : B) → pick (fine y) (c.check (from y)) fault ≡ 0 → c.check (from y) ≡ 0)
    (cleaned : (y : B) → pick (fine y) (c.check (from y)) fault ≡ 0 → clean y ≡ to (c.norm (from y)))
    (judged : (y : B) → pick (fine (clean y)) (c.check (from (clean y))) fault ≡ pick (fine y) (c.check (from y)) fault) where
  viewed-accepted : (bs : List Bool) (p q : ℕ) (y : B) (a : Answer A) → c.read bs p ≡ a → next a (λ x r. got (to x) r) ≡ got y q → Accepted (viewed to from clean fine fault c) bs p q y
  unfolding next viewed
  viewed-accepted bs p q y (refused f t) ea e = absurd (never e)
  viewed-accepted bs p q y (got x r) ea e =
      let k = lc.accepted bs p r x ea in
      let ey : to x ≡ y = cc in
      let eq : r ≡ q = cc in
      let b : from (to x) ≡ x = back x k.legal k.clean in
      let l : pick (fine (to x)) (c.check (from (to x))) fault ≡ 0 =
      subst⁻¹ (λ (z : Bool). pick z (c.check (from (to x))) fault ≡ 0) (made x k.legal) (subst⁻¹ (λ (z : A). c.check z ≡ 0) b k.legal)
      in
      let s : Accepted (viewed to from clean fine fault c) bs p r (to x) =
      record {
        legal = l;
        clean = cleaned (to x) l ∙ ap (λ (z : A). to (c.norm z)) b ∙ ap to k.clean;
        same = subst⁻¹ (λ (z : A). drop p bs ≡ c.write z ++ drop r bs) b k.same;
        ends = subst⁻¹ (λ (z : A). r ≡ p + length (c.write z)) b k.ends;
      }
      in subst₂ (λ z u. Accepted (viewed to from clean fine fault c) bs p u z) ey eq s

  pub viewed-lawful : Lawful (viewed to from clean fine fault c)
  unfolding next viewed
  viewed-lawful =
      record {
        written = λ bs rest p y l e. rw (lc.written bs rest p (from y) (legal y l) e, cleaned y l);
        accepted = λ bs p q y e. viewed-accepted bs p q y (c.read bs p) refl e;
        judged = judged;
        sized = λ y. lc.sized (from y);
      }

pub shaped-lawful : {A B : Type 0} (to : A → B) (from : B → A) {c : Codec A} → Lawful c → ((x : A) → from (to x) ≡ x) → Lawful (shaped to from c)
shaped-lawful to from {c} lc back =
    viewed-lawful to from _ (λ y. true) 0 c lc (λ x l n. back x) (λ x l. refl) (λ y l. l) (λ y l. refl)
    (λ y. ap c.check (back (c.norm (from y))) ∙ lc.judged (from y))

module _ {A : Type 0} (test : A → Bool) (fault : ℕ) (hf : 0 < fault) (c : Codec A) (lc : Lawful c) (tn : (x : A) → test (c.norm x) ≡ test x) where
  tested-got : (bs : List Bool) (p q r : ℕ) (x y : A) → Accepted c bs p r x → (b : Bool) → test x ≡ b → pick b (got x r) (refused fault p) ≡ got y q → Accepted (tested test fault c) bs p q y
  unfolding tested first
  tested-got bs p q r x y k false eb e = absurd (never e)
  tested-got bs p q r x y k true eb e =
      let ex : x ≡ y = cc in
      let eq : r ≡ q = cc in
      let s : Accepted (tested test fault c) bs p r x = record { legal = rw (k.legal, eb); clean = k.clean; same = k.same; ends = k.ends }
      in subst₂ (λ z u. Accepted (tested test fault c) bs p u z) ex eq s

  tested-accepted : (bs : List Bool) (p q : ℕ) (y : A) (a : Answer A) → c.read bs p ≡ a → next a (λ x r. pick (test x) (got x r) (refused fault p)) ≡ got y q → Accepted (tested test fault c) bs p q y
  unfolding next
  tested-accepted bs p q y (refused f t) ea e = absurd (never e)
  tested-accepted bs p q y (got x r) ea e = tested-got bs p q r x y (lc.accepted bs p r x ea) (test x) refl e

  pub tested-lawful : Lawful (tested test fault c)
  unfolding next tested
  tested-lawful =
      record {
        written = λ bs rest p x l e.
            let z = first-zero (c.check x) (pick (test x) 0 fault) l in
            rw (lc.written bs rest p x z.0 e, tn x, passed (test x) fault hf z.1);
        accepted = λ bs p q y e. tested-accepted bs p q y (c.read bs p) refl e;
        judged = λ x. rw (lc.judged x, tn x);
        sized = lc.sized;
      }

pub must-lawful : (b : Bool) (fault : ℕ) → 0 < fault → Lawful (must b fault)
unfolding flag
must-lawful b fault hf = tested-lawful (λ x. same x b) fault hf flag flag-lawful (λ x. refl)

-- behind a legal value the closing bit is 0
closed : {A : Type 0} (c : Codec A) (fault : ℕ) → 0 < fault → (x : A) (b : Bool) → (c & must false fault).check (x, b) ≡ 0 → b ≡ false
unfolding ◌then_by◌ tested flag first
closed c fault hf x false l = refl
closed c fault hf x true l = absurd (omega (arith, (first-zero (c.check x) fault l).1))

pub closed_by-lawful : {A : Type 0} {c : Codec A} (fault : ℕ) → 0 < fault → Lawful c → Lawful (c closed_by fault)
unfolding ◌closed_by◌ ◌then_by◌ tested flag first
closed_by-lawful {c = c} fault hf lc =
    viewed-lawful _ _ _ _ 0 (c & must false fault) (and-lawful lc (must-lawful false fault hf))
    (λ x l n. ap (λ (b : Bool). (x.0, b)) (sym (closed c fault hf x.0 x.1 l)))
    (λ x l. refl)
    (λ y l. l)
    (λ y l. refl)
    (λ y. rw (lc.judged y))

-- what an edition lacks is legal where it is not there
not_there : (b : Bool) (fault : ℕ) → 0 < fault → pick b fault 0 ≡ 0 → b ≡ false
not_there false fault hf l = refl
not_there true fault hf l = absurd (omega arith)

module _ {A : Type 0} (x : A) (there : A → Bool) (fault : ℕ) (hf : 0 < fault) (c : Codec A) (lc : Lawful c)
    (absent : there x ≡ false)
    (cleaned : (y : A) → there y ≡ false → c.norm y ≡ x)
    (kept : (y : A) → there (c.norm y) ≡ there y) where
  pub unless-lawful : (lacking : Bool) → Lawful (unless lacking x there fault c)
  unfolding unless
  unless-lawful false =
      record {
        written = lc.written;
        accepted = λ bs p q y e. let k = lc.accepted bs p q y e in record { legal = k.legal; clean = k.clean; same = k.same; ends = k.ends };
        judged = lc.judged;
        sized = lc.sized;
      }
  unless-lawful true =
      record {
        written = λ bs rest p y l e. ap₂ got (sym (cleaned y (not_there (there y) fault hf l))) (omega arith);
        accepted = λ bs p q y e.
            let ey : x ≡ y = cc in
            let eq : p ≡ q = cc in
            let s : Accepted (unless true x there fault c) bs p p x = record { legal = rw absent; clean = cleaned x absent; same = refl; ends = omega arith } in
            subst₂ (λ z u. Accepted (unless true x there fault c) bs p u z) ey eq s;
        judged = λ y. ap (λ (b : Bool). pick b fault 0) (kept y);
        sized = λ y. refl;
      }
