-- The characters of a text have a codec's laws, for every maximum. Assumes nothing.
use Prim.Native.Nat.{ℕ, min, zero, suc, ◌+◌, ◌*◌, ◌≤◌}
use mathlib.Core.Path.{◌≡◌, refl, ap, subst, subst₂, ◌∙◌}
use mathlib.Core.Bool.{Bool, true, false}
use mathlib.Core.List.{List, [], ◌∷◌, ◌++◌, append_assoc}
use lib.ListN.{length, drop, length-append}
use lib.Dec.{leb, eqb, lit<, lit≤, leb-zero}
use borrow.Author.Tests.{eqb-true, eqb-false, ne_eqb, leb-true, le-leb}
use native.Mathlib.Nat.{add_assoc}
use native.Mathlib.Omega.{arith}
use Rattle.bits.specs.Bits.{low_bits, weight}
use Rattle.bits.proofs.NumberBits.{length-low_bits}
use Rattle.codec.specs.Answer.{Answer, got, refused, next, pick}
use Rattle.codec.specs.Codec.{number, tested}
use Rattle.codec.specs.Characters.{character, characters, read_characters, write_characters, legal_characters}
use Rattle.codec.specs.Lists.{non_empty}
use Rattle.codec.proofs.Lawful.{Accepted, Lawful, behind, never}
use Rattle.codec.proofs.Fields.{number-lawful, number-most, passed, and_left, and_right}
use Rattle.codec.proofs.Sequences.{first-zero}
use Rattle.codec.proofs.Views.{tested-lawful}

character-lawful : Lawful character
character-lawful = number-lawful 7 0 127 3 (lit< tt) (lit< tt) (lit< tt)

-- a character is no larger than the marker
pub character-most : (bs : List Bool) (p q x : ℕ) → character.read bs p ≡ got x q → x ≤ 127
character-most bs p q x e = number-most 7 0 127 3 (lit< tt) (lit< tt) (lit< tt) bs p q x e

character-written : (bs rest : List Bool) (p c : ℕ) → c ≤ 127 → drop p bs ≡ low_bits 7 c ++ rest → character.read bs p ≡ got c (p + 7)
unfolding number
character-written bs rest p c h e = character-lawful.written bs rest p c (rw (le-leb c 127 h, leb-zero c)) e ∙ ap (λ (n : ℕ). got c (p + n)) (length-low_bits 7 c)

characters-written : (n : ℕ) (bs rest : List Bool) (p : ℕ) (cs : List ℕ) → legal_characters n cs ≡ true → drop p bs ≡ write_characters n cs ++ rest → read_characters n bs p ≡ got cs (p + length (write_characters n cs))
unfolding legal_characters write_characters read_characters next
characters-written zero bs rest p [] g e = ap (got []) (omega arith)
characters-written zero bs rest p (c ∷ cs) g e = absurd (omega (arith, ap weight g))
characters-written (suc n) bs rest p [] g e = rw (character-written bs rest p 127 (lit≤ tt) e, length-low_bits 7 127)
characters-written (suc n) bs rest p (c ∷ cs) g e =
    let h : c ≤ 126 = leb-true c 126 (and_left (leb c 126) (legal_characters n cs) g) in
    let k : drop p bs ≡ low_bits 7 c ++ (write_characters n cs ++ rest) = e ∙ append_assoc (low_bits 7 c) (write_characters n cs) rest in
    let m : drop (p + 7) bs ≡ write_characters n cs ++ rest = subst (λ (j : ℕ). drop (p + j) bs ≡ write_characters n cs ++ rest) (length-low_bits 7 c) (behind bs (low_bits 7 c) (write_characters n cs ++ rest) p k) in
    rw (
      character-written bs (write_characters n cs ++ rest) p c (omega arith) k,
      ne_eqb c 127 (omega arith),
      characters-written n bs rest (p + 7) cs (and_right (leb c 126) (legal_characters n cs) g) m,
      length-append,
      length-low_bits 7 c,
      add_assoc,
    )

module _ (n : ℕ) (bs : List Bool) (p q : ℕ) (cs : List ℕ) where
  accepted-third : (v r : ℕ) → Accepted character bs p r v → v ≤ 126 → (a : Answer (List ℕ)) → ((t : ℕ) (ds : List ℕ) → a ≡ got ds t → Accepted (characters n) bs r t ds) → next a (λ ds t. got (v ∷ ds) t) ≡ got cs q → Accepted (characters (suc n)) bs p q cs
  unfolding legal_characters write_characters next characters number
  accepted-third v r k h (refused f t) ih e = absurd (never e)
  accepted-third v r k h (got ds t) ih e =
      let ec : v ∷ ds ≡ cs = cc in
      let eq : t ≡ q = cc in
      let i = ih t ds refl in
      let s : Accepted (characters (suc n)) bs p t (v ∷ ds) =
      record {
        legal = rw (le-leb v 126 h) i.legal;
        clean = refl;
        same = k.same ∙ rw (i.same, append_assoc);
        ends = rw length-append (omega (arith, k.ends, i.ends));
      }
      in subst₂ (λ z u. Accepted (characters (suc n)) bs p u z) ec eq s

  accepted-second : (v r : ℕ) → Accepted character bs p r v → v ≤ 127 → (b : Bool) → eqb v 127 ≡ b → ((t : ℕ) (ds : List ℕ) → read_characters n bs r ≡ got ds t → Accepted (characters n) bs r t ds) → pick b (got [] r) (next (read_characters n bs r) (λ ds t. got (v ∷ ds) t)) ≡ got cs q → Accepted (characters (suc n)) bs p q cs
  unfolding legal_characters write_characters characters number
  accepted-second v r k h true eb ih e =
      let ec : [] ≡ cs = cc in
      let eq : r ≡ q = cc in
      let ev : v ≡ 127 = eqb-true v 127 eb in
      let s : Accepted (characters (suc n)) bs p r [] = record { legal = refl; clean = refl; same = rw (← ev) k.same; ends = rw (← ev) k.ends }
      in subst₂ (λ z u. Accepted (characters (suc n)) bs p u z) ec eq s
  accepted-second v r k h false eb ih e = accepted-third v r k (omega (arith, eqb-false v 127 eb)) (read_characters n bs r) ih e

  accepted-first : (a : Answer ℕ) → character.read bs p ≡ a → ((r t : ℕ) (ds : List ℕ) → read_characters n bs r ≡ got ds t → Accepted (characters n) bs r t ds) → next a (λ v r. pick (eqb v 127) (got [] r) (next (read_characters n bs r) (λ ds t. got (v ∷ ds) t))) ≡ got cs q → Accepted (characters (suc n)) bs p q cs
  unfolding next
  accepted-first (refused f t) ea ih e = absurd (never e)
  accepted-first (got v r) ea ih e = accepted-second v r (character-lawful.accepted bs p r v ea) (character-most bs p r v ea) (eqb v 127) refl (ih r) e

characters-accepted : (n : ℕ) (bs : List Bool) (p q : ℕ) (cs : List ℕ) → read_characters n bs p ≡ got cs q → Accepted (characters n) bs p q cs
unfolding read_characters legal_characters write_characters characters
characters-accepted zero bs p q cs e =
    let ec : [] ≡ cs = cc in
    let eq : p ≡ q = cc in
    let s : Accepted (characters zero) bs p p [] = record { legal = refl; clean = refl; same = refl; ends = omega arith }
    in subst₂ (λ z u. Accepted (characters zero) bs p u z) ec eq s
characters-accepted (suc n) bs p q cs e = accepted-first n bs p q cs (character.read bs p) refl (λ r t ds. characters-accepted n bs r t ds) e

characters-sized : (n : ℕ) (cs : List ℕ) → length (write_characters n cs) ≡ 7 * min n (length cs + 1)
unfolding write_characters
characters-sized zero cs = omega arith
characters-sized (suc n) [] = omega (arith, length-low_bits 7 127)
characters-sized (suc n) (c ∷ cs) = rw length-append (omega (arith, length-low_bits 7 c, characters-sized n cs))

pub characters-lawful : (n : ℕ) → Lawful (characters n)
unfolding characters
characters-lawful n =
    record {
      written = λ bs rest p cs l e. characters-written n bs rest p cs (passed (legal_characters n cs) 4 (lit< tt) l) e;
      accepted = characters-accepted n;
      judged = λ cs. refl;
      sized = characters-sized n;
    }

-- a text's characters: one at least
pub text-lawful : (n : ℕ) → Lawful (tested non_empty 4 (characters n))
unfolding characters
text-lawful n = tested-lawful non_empty 4 (lit< tt) (characters n) (characters-lawful n) (λ cs. refl)

legal-length : (n : ℕ) (cs : List ℕ) → legal_characters n cs ≡ true → length cs ≤ n
unfolding legal_characters
legal-length n [] g = omega arith
legal-length zero (c ∷ cs) g = absurd (omega (arith, ap weight g))
legal-length (suc n) (c ∷ cs) g = omega (arith, legal-length n cs (and_right (leb c 126) (legal_characters n cs) g))

-- a legal text has at most n characters
pub text-length : (n : ℕ) (cs : List ℕ) → (tested non_empty 4 (characters n)).check cs ≡ 0 → length cs ≤ n
unfolding tested characters
text-length n cs l = legal-length n cs (passed (legal_characters n cs) 4 (lit< tt) (first-zero (pick (legal_characters n cs) 0 4) (pick (non_empty cs) 0 4) l).0)
