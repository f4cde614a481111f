-- The octets of a line put one after another. Assumes nothing.
use Prim.Native.Nat.{ℕ, zero, suc, ◌+◌, ◌*◌, ◌/◌, ◌%◌, ◌≤◌, ◌<◌}
use mathlib.Core.Path.{◌≡◌, refl, sym, ap, ap₂, ◌∙◌}
use mathlib.Core.Bool.{true, false, ◌&&◌}
use mathlib.Core.List.{List, [], ◌∷◌, ◌++◌, append_assoc, append-nil}
use lib.ListN.{length, take, drop, set, get_or, length-append, length-set, take-append-drop, drop_of_length-le}
use lib.Seq.{take_at, drop_at, drop-drop, set_split, length-take-le}
use lib.Dec.{leb, eqb}
use borrow.Author.Tests.{leb-true, eqb-true}
use native.Mathlib.Omega.{arith}
use Rattle.codec.proofs.Fields.{and_left, and_right}
use Rattle.hexadecimal.specs.Lines.{value_of, all_digits, is_line, octets_in, octets_of, output_after}
use Rattle.hexadecimal.proofs.Digits.{line-is, line-not}

-- an octet's two digits
pub octet-at : (l : List ℕ) (j d : ℕ) → suc j < length l → octets_in (drop j l) ≡ (value_of (get_or l j d) % 16 * 16 + value_of (get_or l (suc j) d) % 16) ∷ octets_in (drop (suc (suc j)) l)
unfolding octets_in
octet-at [] j d h = absurd (omega arith)
octet-at (x ∷ []) j d h = absurd (omega arith)
octet-at (x ∷ y ∷ l) zero d h = refl
octet-at (x ∷ y ∷ l) (suc j) d h = octet-at (y ∷ l) j d (omega arith)

pub octets-count : (l : List ℕ) → length (octets_in l) ≡ length l / 2
unfolding octets_in
octets-count [] = refl
octets-count (a ∷ []) = refl
octets-count (a ∷ b ∷ l) = omega (arith, octets-count l)

-- the first i octets are put, and behind them the output is as it was
pub record Filling (l before : List ℕ) (i : ℕ) (after : List ℕ) : Type 0 where
  pub room : length after ≡ length before
  pub begun : take i after ++ octets_in (drop (2 * i) l) ≡ octets_in l
  pub kept : drop i after ≡ drop i before

pub filling-none : (l before : List ℕ) → Filling l before 0 before
filling-none l before = record { room = refl; begun = refl; kept = refl }

module _ (s : List ℕ) (i v : ℕ) (h : i < length s) where
  front_length : length (take i s ++ (v ∷ [])) ≡ suc i
  front_length = rw (length-append, length-take-le i s (omega arith)) (omega arith)

  split : set s i v ≡ (take i s ++ (v ∷ [])) ++ drop (suc i) s
  split = set_split s i v h ∙ sym (append_assoc (take i s) (v ∷ []) (drop (suc i) s))

  pub set_front : take (suc i) (set s i v) ≡ take i s ++ (v ∷ [])
  set_front = ap (take (suc i)) split ∙ take_at (take i s ++ (v ∷ [])) (drop (suc i) s) (suc i) front_length

  pub set_rest : drop (suc i) (set s i v) ≡ drop (suc i) s
  set_rest = ap (drop (suc i)) split ∙ drop_at (take i s ++ (v ∷ [])) (drop (suc i) s) (suc i) front_length

next-drop : (i : ℕ) (s : List ℕ) → drop (suc i) s ≡ drop 1 (drop i s)
next-drop i s = let e : i + 1 ≡ suc i = omega arith in sym (drop-drop 1 i s ∙ ap (λ (k : ℕ). drop k s) e)

pub filling-more : (l before after : List ℕ) (i d v : ℕ) → Filling l before i after → i < length after → 2 * i + 1 < length l → v ≡ value_of (get_or l (2 * i) d) % 16 * 16 + value_of (get_or l (2 * i + 1) d) % 16 → Filling l before (i + 1) (set after i v)
filling-more l before after i d v f h k r =
    let n : i + 1 ≡ suc i = omega arith in
    let m : 2 * suc i ≡ suc (suc (2 * i)) = omega arith in
    let j : 2 * i + 1 ≡ suc (2 * i) = omega arith in
    let r' : v ≡ value_of (get_or l (2 * i) d) % 16 * 16 + value_of (get_or l (suc (2 * i)) d) % 16 = r ∙ ap (λ (z : ℕ). value_of (get_or l (2 * i) d) % 16 * 16 + value_of (get_or l z d) % 16) j in
    let o : octets_in (drop (2 * i) l) ≡ v ∷ octets_in (drop (2 * suc i) l) = octet-at l (2 * i) d (omega arith) ∙ rw (← r', m) in
    let b : take (suc i) (set after i v) ++ octets_in (drop (2 * suc i) l) ≡ octets_in l =
    ap (λ (z : List ℕ). z ++ octets_in (drop (2 * suc i) l)) (set_front after i v h) ∙ append_assoc (take i after) (v ∷ []) (octets_in (drop (2 * suc i) l)) ∙ ap (λ (z : List ℕ). take i after ++ z) (sym o) ∙ f.begun in
    let e : drop (suc i) (set after i v) ≡ drop (suc i) before =
    set_rest after i v h ∙ next-drop i after ∙ ap (drop 1) f.kept ∙ sym (next-drop i before) in
    record { room = length-set after i v ∙ f.room; begun = rw n b; kept = rw n e }

-- a line has two digits for each octet, and no more octets than the output takes
pub line-length : (l : List ℕ) → is_line l ≡ true → length l ≡ 2 * (length l / 2)
line-length l e = let t = eqb-true (length l % 2) 0 (and_left _ (all_digits l) (and_right (leb (length l) 16384) _ e)) in omega arith

pub line-fits : (l : List ℕ) → is_line l ≡ true → length l / 2 ≤ 8192
line-fits l e = let t = leb-true (length l) 16384 (and_left _ (eqb (length l % 2) 0 && all_digits l) e) in omega arith

pub filling-all : (l before after : List ℕ) (i : ℕ) → is_line l ≡ true → Filling l before i after → i ≡ length l / 2 → after ≡ output_after (octets_of l) before
unfolding output_after octets_in
filling-all l before after i t f e =
    let n : length l ≤ 2 * i = omega (arith, line-length l t) in
    let z : take i after ≡ octets_in l = sym (append-nil (take i after)) ∙ ap (λ (x : List ℕ). take i after ++ octets_in x) (sym (drop_of_length-le l {i = 2 * i} n)) ∙ f.begun in
    let k : i ≡ length (octets_in l) = e ∙ sym (octets-count l) in
    let w : after ≡ octets_in l ++ drop (length (octets_in l)) before = sym (take-append-drop i after) ∙ ap₂ (λ (x y : List ℕ). x ++ y) z (f.kept ∙ ap (λ (m : ℕ). drop m before) k) in
    rw (line-is l t) w

pub kept_out : (l before : List ℕ) → is_line l ≡ false → before ≡ output_after (octets_of l) before
unfolding output_after
kept_out l before e = rw (line-not l e)
