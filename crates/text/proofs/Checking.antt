-- A text's check, character by character. Assumes nothing.
use Prim.Native.Nat.{ℕ, zero, suc, ◌+◌, ◌-◌, ◌<◌, ◌≤◌, max}
use mathlib.Core.Path.{◌≡◌, refl, ap, sym, ◌∙◌}
use mathlib.Core.Bool.{Bool, true, false, ◌&&◌}
use mathlib.Core.List.{List, [], ◌∷◌}
use lib.ListN.{length, take, drop, get_or, length-take, drop_of_length-le}
use lib.Seq.{drop-cons, get_or-take}
use lib.Dec.{leb}
use borrow.Author.Tests.{le-leb, lt-leb, leb-true, leb-false}
use native.Mathlib.Numerals.{add-one}
use native.Mathlib.Omega.{arith}
use Rattle.codec.specs.Answer.{pick}
use Rattle.codec.specs.Codec.{first, tested, viewed}
use Rattle.codec.specs.Characters.{characters, legal_characters}
use Rattle.codec.specs.Lists.{non_empty, cells}
use Rattle.text.specs.Texts.{text, chars_of}
use Rattle.text.specs.declared.Text.{Text}

module _ (most : ℕ) (x : Text) (lx : length x.chars ≡ 64) where
  pub check-long : most < x.len → 4 ≡ (text most).check x
  unfolding text cells viewed
  check-long h = rw (lx, lt-leb x.len most h)

  module _ (h : x.len ≤ most) where
    check-by : (g b : Bool) → legal_characters most (chars_of x) ≡ g → non_empty (chars_of x) ≡ b → first (pick g 0 4) (pick b 0 4) ≡ (text most).check x
    unfolding text cells viewed tested characters
    check-by g b eg eb = rw (lx, le-leb x.len most h, eg, eb)

    pub check-none : x.len ≡ 0 → 4 ≡ (text most).check x
    unfolding first legal_characters
    check-none e = check-by true false (rw e) (rw e)

    pub check-bad : legal_characters most (chars_of x) ≡ false → 4 ≡ (text most).check x
    unfolding first
    check-bad e = check-by false (non_empty (chars_of x)) e refl

    pub check-good : 0 < x.len → legal_characters most (chars_of x) ≡ true → 0 ≡ (text most).check x
    unfolding first
    check-good k e = check-by true true e (go x.len x.chars k lx)
      where
        go : (n : ℕ) (cs : List ℕ) → 0 < n → length cs ≡ 64 → non_empty (take n cs) ≡ true
        go zero cs k l = absurd (omega arith)
        go (suc n) [] k l = absurd (omega arith)
        go (suc n) (c ∷ cs) k l = refl

-- the larger of two is legal where both are
both-legal : (a b : ℕ) → leb a 126 && leb b 126 ≡ leb (max a b) 126
both-legal a b = go (leb a 126) (leb b 126) refl refl
  where
    go : (p q : Bool) → leb a 126 ≡ p → leb b 126 ≡ q → p && q ≡ leb (max a b) 126
    go true true e f = let x = leb-true a 126 e in let y = leb-true b 126 f in sym (le-leb (max a b) 126 (omega arith))
    go true false e f = let y = leb-false b 126 f in sym (lt-leb (max a b) 126 (omega arith))
    go false q e f = let x = leb-false a 126 e in sym (lt-leb (max a b) 126 (omega arith))

-- the text is legal where the highest of the characters before the i-th is, and those from the i-th on are
pub record Passed (chars : List ℕ) (len most highest i : ℕ) : Type 0 where
  pub within : i ≤ len
  pub same : legal_characters most (take len chars) ≡ leb highest 126 && legal_characters (most - i) (drop i (take len chars))

pub passed_none : (chars : List ℕ) (len most : ℕ) → Passed chars len most 0 0
passed_none chars len most = record { within = omega arith; same = ap (λ (n : ℕ). legal_characters n (take len chars)) (omega arith) }

module _ (chars : List ℕ) (len most highest i : ℕ) (w : Passed chars len most highest i) (lc : length chars ≡ 64) (lm : most ≤ 64) (ll : len ≤ most) where
  one_more : i < len → legal_characters (most - i) (drop i (take len chars)) ≡ leb (get_or chars i 0) 126 && legal_characters (most - (i + 1)) (drop (i + 1) (take len chars))
  unfolding legal_characters
  one_more k =
      let n : most - i ≡ suc (most - (i + 1)) = omega arith in
      let l : i < length (take len chars) = rw length-take (omega arith) in
      rw (n, drop-cons (take len chars) i 0 l, get_or-take len chars i 0 k, add-one)

  pub passed-more : i < len → (next : ℕ) → next ≡ max highest (get_or chars i 0) → Passed chars len most next (i + 1)
  passed-more k next e =
      record {
        within = omega arith;
        same =
            w.same
            ∙ ap (λ (b : Bool). leb highest 126 && b) (one_more k)
            ∙ regroup (leb highest 126) (leb (get_or chars i 0) 126) (legal_characters (most - (i + 1)) (drop (i + 1) (take len chars)))
            ∙ ap (λ (b : Bool). b && legal_characters (most - (i + 1)) (drop (i + 1) (take len chars))) (both-legal highest (get_or chars i 0))
            ∙ ap (λ (v : ℕ). leb v 126 && legal_characters (most - (i + 1)) (drop (i + 1) (take len chars))) (sym e);
      }
    where
      regroup : (a b c : Bool) → a && (b && c) ≡ (a && b) && c
      regroup true b c = refl
      regroup false b c = refl

  pub passed-all : len ≤ i → legal_characters most (take len chars) ≡ leb highest 126
  unfolding legal_characters
  passed-all k = w.same ∙ rw (drop_of_length-le (take len chars) {i = i} (rw length-take (omega arith))) (go (leb highest 126) (most - i))
    where
      go : (b : Bool) (n : ℕ) → b && legal_characters n [] ≡ b
      go true n = refl
      go false n = refl
