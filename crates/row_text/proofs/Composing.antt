-- Texts put one behind another are one text. Assumes nothing.
use Prim.Native.Nat.{ℕ, ◌+◌, ◌≤◌, ◌<◌}
use mathlib.Core.Path.{◌≡◌, refl, sym, ap, ap₂, ◌∙◌}
use mathlib.Core.Bool.{Bool, true, false}
use mathlib.Core.List.{List, [], ◌∷◌, ◌++◌, append_assoc, append-nil}
use lib.ListN.{length, take, drop, set, length-append, take-append-drop, drop_of_length-le}
use lib.Seq.{take_all, take_at, drop_at, drop-drop, set_split, length-take-le}
use lib.Dec.{leb}
use borrow.Author.Tests.{leb-true, leb-false}
use native.Mathlib.Numerals.{add-one}
use native.Mathlib.Nat.{add-zero, add_assoc}
use native.Mathlib.Omega.{arith}
use Rattle.codec.specs.Answer.{pick}
use Rattle.row_text.specs.Puts.{Puts}

-- s with a text from octet p on
abbrev put : List ℕ → ℕ → List ℕ → List ℕ
put s p a = take p s ++ (a ++ drop (p + length a) s)

-- behind the end a text is only added
put-past : (s : List ℕ) (p : ℕ) (a : List ℕ) → length s ≤ p → put s p a ≡ s ++ a
put-past s p a h = ap₂ (λ (x y : List ℕ). x ++ (a ++ y)) (take_all p s h) (drop_of_length-le s {i = p + length a} (omega arith)) ∙ rw append-nil

put-put : (s : List ℕ) (p : ℕ) (a b : List ℕ) → put (put s p a) (p + length a) b ≡ put s p (a ++ b)
put-put s p a b = go (leb p (length s)) refl
  where
    inside : p ≤ length s → put (put s p a) (p + length a) b ≡ put s p (a ++ b)
    inside h =
        let front : List ℕ = take p s ++ a in
        let rest : List ℕ = drop (p + length a) s in
        let l : length front ≡ p + length a = rw (length-append, length-take-le p s h) in
        let e : put s p a ≡ front ++ rest = sym (append_assoc (take p s) a rest) in
        let d : drop (p + length a + length b) (front ++ rest) ≡ drop (p + length a + length b) s =
        sym (drop-drop (length b) (p + length a) (front ++ rest)) ∙ ap (drop (length b)) (drop_at front rest (p + length a) l) ∙ drop-drop (length b) (p + length a) s in
        ap (λ (x : List ℕ). put x (p + length a) b) e
        ∙ ap₂ (λ (x y : List ℕ). x ++ (b ++ y)) (take_at front rest (p + length a) l) d
        ∙ simp (append_assoc, length-append, add_assoc)

    outside : length s ≤ p → put (put s p a) (p + length a) b ≡ put s p (a ++ b)
    outside h =
        let l : length (s ++ a) ≤ p + length a = rw length-append (omega arith) in
        ap (λ (x : List ℕ). put x (p + length a) b) (put-past s p a h) ∙ put-past (s ++ a) (p + length a) b l ∙ append_assoc s a b ∙ sym (put-past s p (a ++ b) h)

    go : (t : Bool) → leb p (length s) ≡ t → put (put s p a) (p + length a) b ≡ put s p (a ++ b)
    go true e = inside (leb-true p (length s) e)
    go false e = outside (omega (arith, leb-false p (length s) e))

pub then-puts : {a b s t u : List ℕ} {p q r : ℕ} → Puts a s t p q → Puts b t u q r → Puts (a ++ b) s u p r
then-puts {a} {b} {s} {t} {u} {p} {q} {r} e f =
    record {
      octets = f.octets ∙ ap₂ (λ (x : List ℕ) (n : ℕ). put x n b) e.octets e.ends ∙ put-put s p a b;
      ends = rw length-append (omega (arith, e.ends, f.ends));
    }

pub same-puts : {a b s t : List ℕ} {p q : ℕ} → b ≡ a → Puts a s t p q → Puts b s t p q
same-puts e w = rw e w

-- an octet, and a text behind it
pub octet-puts : {c : ℕ} {b s t u : List ℕ} {p q r : ℕ} → Puts (c ∷ []) s t p q → Puts b t u q r → Puts (c ∷ b) s u p r
octet-puts e f = then-puts e f

pub nothing-puts : (s : List ℕ) (p : ℕ) → Puts [] s s p p
nothing-puts s p = record { octets = rw add-zero (sym (take-append-drop p s)); ends = omega arith }

-- a text that is there, and one that is not
pub present-puts : {b : Bool} {a s t : List ℕ} {p q : ℕ} → b ≡ true → Puts a s t p q → Puts (pick b a []) s t p q
present-puts e w = rw e w

pub absent-puts : {b : Bool} (a s : List ℕ) (p : ℕ) → b ≡ false → Puts (pick b a []) s s p p
absent-puts a s p e = rw e (nothing-puts s p)

pub ruleset putting = (then-puts, octet-puts, nothing-puts, present-puts, absent-puts)

-- one octet stored
pub set-puts : (s : List ℕ) (p c : ℕ) → p < length s → Puts (c ∷ []) s (set s p c) p (p + 1)
set-puts s p c h = record { octets = rw (set_split s p c h, add-one); ends = refl }
