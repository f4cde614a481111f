-- A text that is written character by character from its cells, and its size. Assumes nothing.
use Prim.Native.Nat.{ℕ, suc, min, ◌+◌, ◌*◌, ◌-◌, ◌<◌, ◌≤◌}
use mathlib.Core.Path.{◌≡◌, refl, ◌∙◌, subst}
use mathlib.Core.List.{List, [], ◌∷◌}
use lib.ListN.{length, take, drop, get_or, length-take, drop_of_length-le}
use lib.Seq.{drop-cons, get_or-take}
use native.Mathlib.Numerals.{add-one}
use native.Mathlib.Omega.{arith}
use Rattle.codec.specs.Codec.{nothing, number, ◌then_by◌, tested, viewed}
use Rattle.codec.specs.Characters.{character, characters, write_characters}
use Rattle.codec.specs.Lists.{cells}
use Rattle.codec.specs.Writes.{Writes}
use Rattle.codec.proofs.Compose.{then-writes, nothing-writes, shape-writes, tested-writes}
use Rattle.text.specs.Texts.{text, chars_of}
use Rattle.text.specs.declared.Text.{Text}

more : (s t u : List ℕ) (p q r n c : ℕ) (cs : List ℕ) → Writes character c s t p q → Writes (characters n) cs t u q r → Writes (characters (suc n)) (c ∷ cs) s u p r
unfolding characters write_characters number ◌then_by◌
more s t u p q r n c cs e f =
    let w = then-writes character (λ x. characters n) (c, cs) s t u p q r e f in
    record { bits = w.bits; ends = w.ends; next = omega (arith, w.next) }

mark : (s t : List ℕ) (p q n : ℕ) → Writes character 127 s t p q → Writes (characters (suc n)) [] s t p q
unfolding characters write_characters number
mark s t p q n e = record { bits = e.bits; ends = e.ends; next = omega (arith, e.next) }

full : (s : List ℕ) (p : ℕ) (cs : List ℕ) → Writes (characters 0) cs s s p p
unfolding characters write_characters nothing
full s p cs = let w = nothing-writes cs cs s p in record { bits = w.bits; ends = w.ends; next = omega arith }

-- i characters are written behind place p, q is the next place, and what is written there completes the text
pub record Written (chars : List ℕ) (len most : ℕ) (s₀ : List ℕ) (p : ℕ) (s : List ℕ) (i q : ℕ) : Type 0 where
  pub small : i ≤ most
  pub within : i ≤ len
  pub place : q ≡ p + 7 * i
  pub long : length s ≡ length s₀
  pub rest : (u : List ℕ) (r : ℕ) → Writes (characters (most - i)) (drop i (take len chars)) s u q r → Writes (characters most) (take len chars) s₀ u p r

pub written_none : (chars : List ℕ) (len most : ℕ) (s : List ℕ) (p : ℕ) → Written chars len most s p s 0 p
written_none chars len most s p =
    record { small = omega arith; within = omega arith; place = omega arith; long = refl; rest = λ u r w. subst (λ (n : ℕ). Writes (characters n) (take len chars) s u p r) (omega arith) w }

module _ (chars : List ℕ) (len most : ℕ) (s₀ : List ℕ) (p : ℕ) (s : List ℕ) (i q : ℕ) (w : Written chars len most s₀ p s i q) (lc : length chars ≡ 64) (lm : most ≤ 64) where
  next-char : i < most → i < len → drop i (take len chars) ≡ get_or chars i 0 ∷ drop (i + 1) (take len chars)
  next-char h k =
      let l : i < length (take len chars) = rw length-take (omega arith) in
      drop-cons (take len chars) i 0 l ∙ rw (add-one, get_or-take len chars i 0 k)

  pub written-more : (t : List ℕ) (r : ℕ) → i < most → i < len → length t ≡ length s → Writes character (get_or chars i 0) s t q r → Written chars len most s₀ p t (i + 1) r
  unfolding number
  written-more t r h k l e =
      let n : most - i ≡ suc (most - (i + 1)) = omega arith in
      record {
        small = omega arith;
        within = omega arith;
        place = omega (arith, w.place, e.next);
        long = l ∙ w.long;
        rest = λ u v f. w.rest u v (rw (n, next-char h k) (more s t u q r v (most - (i + 1)) (get_or chars i 0) (drop (i + 1) (take len chars)) e f));
      }

  pub written-mark : (t : List ℕ) (r : ℕ) → i < most → len ≤ i → Writes character 127 s t q r → Writes (characters most) (take len chars) s₀ t p r
  written-mark t r h k e =
      let n : most - i ≡ suc (most - (i + 1)) = omega arith in
      let d : drop i (take len chars) ≡ [] = drop_of_length-le (take len chars) {i = i} (rw length-take (omega arith)) in
      w.rest t r (rw (n, d) (mark s t q r (most - (i + 1)) e))

  pub written-full : most ≤ i → Writes (characters most) (take len chars) s₀ s p q
  written-full h =
      let n : most - i ≡ 0 = omega (arith, w.small) in
      w.rest s q (rw n (full s q (drop i (take len chars))))

-- the text's own writing, and its size
pub text-writes : (most : ℕ) (x : Text) (s t : List ℕ) (p q : ℕ) → Writes (characters most) (chars_of x) s t p q → Writes (text most) x s t p q
unfolding text cells
text-writes most x s t p q w = shape-writes _ _ _ _ _ _ x s t p q (shape-writes _ _ _ _ _ _ _ s t p q (tested-writes _ _ _ _ s t p q w))

pub text-size : (most : ℕ) (x : Text) → (text most).size x ≡ 7 * min most (min x.len (length x.chars) + 1)
unfolding text cells viewed tested characters
text-size most x = rw length-take
