-- Splices: the bits before, in and behind one, one right behind another, and its length. Assumes nothing.
use mathlib.Core.Path.{◌≡◌, refl, sym, ap, ap₂, ◌∙◌}
use mathlib.Core.Bool.{Bool, true, false}
use mathlib.Core.List.{List, [], ◌++◌, append_assoc, append-nil}
use Prim.Native.Nat.{ℕ, ◌+◌, ◌≤◌}
use native.Mathlib.Nat.{add-zero}
use native.Mathlib.Omega.{arith}
use lib.ListN.{length, take, drop, length-append, length-take, length-drop, take-append-drop, drop_of_length-le}
use lib.Seq.{take_all, take_at, drop_at, take-add, drop-drop, length-take-le}
use lib.Dec.{leb}
use borrow.Author.Tests.{leb-true, leb-false}
use Rattle.bits.specs.Bits.{splice}

-- a splice within the list keeps its length
pub length-splice : (s : List Bool) (at : ℕ) (bs : List Bool) → at + length bs ≤ length s → length (splice s at bs) ≡ length s
unfolding splice
length-splice s at bs h = simp (length-append, length-take, length-drop) (omega arith)

pub splice-nil : (s : List Bool) (at : ℕ) → splice s at [] ≡ s
unfolding splice
splice-nil s at = rw add-zero (take-append-drop at s)

-- the bits before a splice, those of it and those after it
pub take-splice : (s : List Bool) (at : ℕ) (bs : List Bool) → at ≤ length s → take at (splice s at bs) ≡ take at s
unfolding splice
take-splice s at bs h = take_at (take at s) (bs ++ drop (at + length bs) s) at (length-take-le at s h)

pub drop-splice : (s : List Bool) (at : ℕ) (bs : List Bool) → at ≤ length s → drop (at + length bs) (splice s at bs) ≡ drop (at + length bs) s
unfolding splice
drop-splice s at bs h = sym (drop-drop (length bs) at (take at s ++ (bs ++ drop (at + length bs) s))) ∙ ap (drop (length bs)) (drop_at (take at s) (bs ++ drop (at + length bs) s) at (length-take-le at s h)) ∙ drop_at bs (drop (at + length bs) s) (length bs) refl

pub part-splice : (s : List Bool) (at : ℕ) (bs : List Bool) → at ≤ length s → take (length bs) (drop at (splice s at bs)) ≡ bs
unfolding splice
part-splice s at bs h = ap (take (length bs)) (drop_at (take at s) (bs ++ drop (at + length bs) s) at (length-take-le at s h)) ∙ take_at bs (drop (at + length bs) s) (length bs) refl

take-splice-end : (s : List Bool) (at : ℕ) (bs : List Bool) → at ≤ length s → take (at + length bs) (splice s at bs) ≡ take at s ++ bs
take-splice-end s at bs h = take-add at (length bs) (splice s at bs) ∙ ap₂ ◌++◌ (take-splice s at bs h) (part-splice s at bs h)

-- one splice right behind another is one splice
splice-inside : (s : List Bool) (at : ℕ) (a b : List Bool) → at ≤ length s → splice (splice s at a) (at + length a) b ≡ splice s at (a ++ b)
unfolding splice
splice-inside s at a b n =
    let front : take (at + length a) (splice s at a) ≡ take at s ++ a = take-splice-end s at a n in
    let back : drop (at + length a + length b) (splice s at a) ≡ drop (at + length a + length b) s =
    sym (drop-drop (length b) (at + length a) (splice s at a)) ∙ ap (drop (length b)) (drop-splice s at a n) ∙ drop-drop (length b) (at + length a) s in
    let len : at + length a + length b ≡ at + length (a ++ b) = simp length-append (omega arith) in
    ap₂ (λ (x y : List Bool). x ++ (b ++ y)) front (back ∙ ap (λ (k : ℕ). drop k s) len) ∙ simp append_assoc

-- past its end a splice only adds
splice-past : (s : List Bool) (at : ℕ) (a : List Bool) → length s ≤ at → splice s at a ≡ s ++ a
unfolding splice
splice-past s at a h = ap₂ (λ (x y : List Bool). x ++ (a ++ y)) (take_all at s h) (drop_of_length-le s {i = at + length a} (omega arith)) ∙ ap (λ (x : List Bool). s ++ x) (append-nil a)

splice-outside : (s : List Bool) (at : ℕ) (a b : List Bool) → length s ≤ at → splice (splice s at a) (at + length a) b ≡ splice s at (a ++ b)
splice-outside s at a b h =
    let l : length (s ++ a) ≤ at + length a = simp length-append (omega arith) in
    ap (λ (z : List Bool). splice z (at + length a) b) (splice-past s at a h) ∙ splice-past (s ++ a) (at + length a) b l
    ∙ append_assoc s a b ∙ sym (splice-past s at (a ++ b) h)

pub splice-splice : (s : List Bool) (at : ℕ) (a b : List Bool) → splice (splice s at a) (at + length a) b ≡ splice s at (a ++ b)
splice-splice s at a b = go (leb at (length s)) refl
  where
    go : (t : Bool) → leb at (length s) ≡ t → splice (splice s at a) (at + length a) b ≡ splice s at (a ++ b)
    go true e = splice-inside s at a b (leb-true at (length s) e)
    go false e = splice-outside s at a b (omega (arith, leb-false at (length s) e))

-- a splice into a list that is cut at its ends
pub splice-mid : (a b c d : List Bool) (at : ℕ) → length a ≡ at → length b ≡ length d → splice (a ++ (b ++ c)) at d ≡ a ++ (d ++ c)
unfolding splice
splice-mid a b c d at e l =
    ap₂ (λ (x y : List Bool). x ++ (d ++ y)) (take_at a (b ++ c) at e)
    (sym (drop-drop (length d) at (a ++ (b ++ c))) ∙ ap (drop (length d)) (drop_at a (b ++ c) at e) ∙ drop_at b c (length d) l)
