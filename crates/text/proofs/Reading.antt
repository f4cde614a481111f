-- A text that is read character by character into its cells. Assumes nothing.
use Prim.Native.Nat.{ℕ, zero, suc, ◌+◌, ◌-◌, ◌<◌, ◌≤◌, ◌%◌}
use mathlib.Core.Path.{◌≡◌, refl, ap, sym, subst, ◌∙◌}
use mathlib.Core.Bool.{Bool, true}
use mathlib.Core.List.{List, [], ◌∷◌, ◌++◌, append_assoc, append-nil}
use lib.ListN.{length, take, set, replicate}
use lib.Seq.{take-suc-set, length-take-le}
use borrow.Author.Tests.{ne_eqb, eq-eqb}
use native.Mathlib.Numerals.{add-one}
use native.Mathlib.Omega.{arith}
use Rattle.codec.specs.Answer.{Answer, got, refused, next}
use Rattle.codec.specs.Codec.{tested, viewed}
use Rattle.codec.specs.Characters.{character, characters, read_characters}
use Rattle.codec.specs.Lists.{non_empty, cells}
use Rattle.codec.specs.Refusals as Refusals
use Rattle.codec.specs.Refusals.{fault_no, answer_of}
use Rattle.codec.specs.declared.Fault.TheVariants.{BadText}
use Rattle.bits.specs.declared.BitPlace.{BitPlace}
use Rattle.std.specs.Prelude.{Ok, Err, ◌==◌, if◌then◌else◌}
use Rattle.codec.specs.declared.FieldFault.{FieldFault}
use Rattle.codec.proofs.CharacterLaws.{character-most}
use Rattle.codec.proofs.Cells.{Filled, filled_none, filled_more, filled-all}
use Rattle.text.specs.Texts.{text}
use Rattle.text.specs.declared.Text.{Text}

abbrev prepend : List ℕ → Answer (List ℕ) → Answer (List ℕ)
prepend cs a = next a (λ ds q. got (cs ++ ds) q)

-- n characters are read, and q is the place of the next
pub record Reading (bs : List Bool) (p most : ℕ) (chars : List ℕ) (n q : ℕ) : Type 0 where
  pub small : n ≤ most
  pub filled : Filled 0 64 chars n
  pub so_far : read_characters most bs p ≡ prepend (take n chars) (read_characters (most - n) bs q)

-- all characters are read, n of them, and q is the place behind them
pub record Ended (bs : List Bool) (p most : ℕ) (chars : List ℕ) (n q : ℕ) : Type 0 where
  pub small : n ≤ most
  pub filled : Filled 0 64 chars n
  pub is : read_characters most bs p ≡ got (take n chars) q

prepend-none : (a : Answer (List ℕ)) → a ≡ prepend [] a
unfolding next
prepend-none (got cs q) = refl
prepend-none (refused f p) = refl

pub reading-none : (bs : List Bool) (p most : ℕ) → Reading bs p most (replicate 64 0) 0 p
reading-none bs p most =
    record { small = omega arith; filled = filled_none 0 64; so_far = prepend-none (read_characters most bs p) ∙ ap (λ (m : ℕ). prepend [] (read_characters m bs p)) (omega arith) }

module _ (bs : List Bool) (p most : ℕ) (chars : List ℕ) (n q : ℕ) (r : Reading bs p most chars n q) where
  one_more : n < most → read_characters (most - n) bs q ≡ read_characters (suc (most - (n + 1))) bs q
  one_more h = ap (λ (m : ℕ). read_characters m bs q) (omega arith)

  prepend-more : (v : ℕ) (a : Answer (List ℕ)) → prepend (take n chars) (next a (λ cs t. got (v ∷ cs) t)) ≡ prepend (take n chars ++ (v ∷ [])) a
  unfolding next
  prepend-more v (got cs t) = ap (λ (l : List ℕ). got l t) (sym (append_assoc (take n chars) (v ∷ []) cs))
  prepend-more v (refused f t) = refl

  reading-more : (v t : ℕ) → n < most → most ≤ 64 → (v ≡ 127 → ⊥) → character.read bs q ≡ got v t → Reading bs p most (set chars n v) (n + 1) t
  unfolding read_characters next
  reading-more v t h m ne e =
      record {
        small = omega arith;
        filled = filled_more 0 64 chars n v (omega arith) r.filled;
        so_far =
            r.so_far
            ∙ ap (prepend (take n chars)) (one_more h)
            ∙ rw (e, ne_eqb v 127 ne, add-one n, take-suc-set chars n v (omega (arith, r.filled.len))) (prepend-more v (read_characters (most - suc n) bs t));
      }

  -- the character as the code stores it
  pub reading-stored : (v t : ℕ) → n < most → most ≤ 64 → (v ≡ 127 → ⊥) → character.read bs q ≡ got v t → Reading bs p most (set chars n (v % 128)) (n + 1) t
  reading-stored v t h m ne e =
      let k : v % 128 ≡ v = omega (arith, character-most bs q t v e) in
      rw k (reading-more v t h m ne e)

  pub ended-full : most ≤ n → Ended bs p most chars most q
  unfolding read_characters next
  ended-full h =
      let z : most - n ≡ 0 = omega arith in
      let e : n ≡ most = omega (arith, r.small) in
      let s : Ended bs p most chars n q = record { small = r.small; filled = r.filled; is = r.so_far ∙ rw z (ap (λ (l : List ℕ). got l q) (append-nil (take n chars))) } in
      subst (λ (k : ℕ). Ended bs p most chars k q) e s

  pub ended-mark : (v t : ℕ) → n < most → v ≡ 127 → character.read bs q ≡ got v t → Ended bs p most chars n t
  unfolding read_characters next
  ended-mark v t h ev e =
      record { small = r.small; filled = r.filled; is = r.so_far ∙ ap (prepend (take n chars)) (one_more h) ∙ rw (e, eq-eqb v 127 ev) (ap (λ (l : List ℕ). got l t) (append-nil (take n chars))) }

  -- a character lacks bits
  pub text-refused : (e : FieldFault) → n < most → character.read bs q ≡ refused (fault_no e.fault) e.place.0 → refused (fault_no e.fault) e.place.0 ≡ (text most).read bs p
  unfolding read_characters next text cells viewed tested characters
  text-refused e h k = rw (r.so_far ∙ ap (prepend (take n chars)) (one_more h), k)

some-take : (chars : List ℕ) (n : ℕ) → 0 < n → 0 < length chars → non_empty (take n chars) ≡ true
some-take [] n h l = absurd (omega arith)
some-take (c ∷ cs) zero h l = absurd (omega arith)
some-take (c ∷ cs) (suc n) h l = refl

module _ (bs : List Bool) (p most : ℕ) (chars : List ℕ) (n q : ℕ) (r : Ended bs p most chars n q) where
  pub text-empty : n ≡ 0 → refused 4 p ≡ (text most).read bs p
  unfolding text cells next viewed tested characters
  text-empty z = rw (r.is, z)

  pub text-got : most ≤ 64 → (n ≡ 0 → ⊥) → got (record { chars = chars; len = n }) q ≡ (text most).read bs p
  unfolding text cells next viewed tested characters
  text-got m z =
      let l : length (take n chars) ≡ n = length-take-le n chars (omega (arith, r.small, r.filled.len)) in
      let k : take n chars ++ replicate (64 - n) 0 ≡ chars = ap (λ (j : ℕ). take n chars ++ replicate (64 - j) 0) (sym l) ∙ filled-all 0 64 chars n (omega (arith, r.small)) r.filled in
      rw (r.is, some-take chars n (omega arith) (omega (arith, r.filled.len)), l, k)

-- the text as the code ends it
pub text-told : (bs : List Bool) (at end : BitPlace) (most : ℕ) (chars : List ℕ) (n : ℕ) (r : Refusals.Reading Text) → most ≤ 64 → Ended bs at.0 most chars n end.0 → r ≡ (if n == 0 then Err (record { fault = BadText; place = at }) else Ok (record { chars = chars; len = n }, end)) → answer_of r ≡ (text most).read bs at.0
unfolding answer_of
text-told bs at end most chars zero r m e k = rw k (text-empty bs at.0 most chars 0 end.0 e refl)
text-told bs at end most chars (suc n) r m e k = rw (k, ne_eqb (suc n) 0 (λ z. absurd (omega (arith, z)))) (text-got bs at.0 most chars (suc n) end.0 e m (λ z. absurd (omega (arith, z))))
