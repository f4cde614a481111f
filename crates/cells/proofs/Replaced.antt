-- Parts of lent octets: a part of a part, and what a replaced part leaves. Assumes nothing.
use Prim.Native.Nat.{ℕ, zero, suc, ◌+◌, ◌-◌, ◌<◌, ◌≤◌}
use mathlib.Core.Path.{◌≡◌, refl, sym, ap, ◌∙◌}
use mathlib.Core.List.{List, [], ◌∷◌, ◌++◌, append_assoc}
use native.Mathlib.Omega.{arith}
use lib.ListN.{length, take, drop, get_or, length-drop, length-append}
use lib.Seq.{take-take, drop-drop, length-take-le, get_or-take, get_or-drop, take-nil, paste, take_all, take_at, drop_at, length-paste, take-append-le, take-append-add, drop-append-le}
use Rattle.cells.specs.Cells.{part, replaced}

pub part_length : (at n : ℕ) (s : List ℕ) → at + n ≤ length s → length (part at n s) ≡ n
part_length at n s h = length-take-le n (drop at s) (simp length-drop (omega arith))

-- the end of a beginning
pub drop_of_take : {A : Type 0} (a n : ℕ) (s : List A) → a ≤ n → drop a (take n s) ≡ take (n - a) (drop a s)
drop_of_take zero n s h = let z : n - zero ≡ n = omega arith in rw z refl
drop_of_take (suc a) zero s h = absurd (omega arith)
drop_of_take {A} (suc a) (suc n) [] h = rw (take-nil {A = A} (suc n - suc a))
drop_of_take (suc a) (suc n) (x ∷ s) h = let z : suc n - suc a ≡ n - a = omega arith in rw z (drop_of_take a n s (omega arith))

pub part-of-part : (a m b n : ℕ) (s : List ℕ) → a + m ≤ n → part a m (part b n s) ≡ part (b + a) m s
part-of-part a m b n s h =
    ap (take m) (drop_of_take a n (drop b s) (omega arith))
    ∙ take-take m (n - a) (drop a (drop b s)) (omega arith)
    ∙ ap (take m) (drop-drop a b s)

pub octet-in : (b n i : ℕ) (s : List ℕ) → i < n → get_or (part b n s) i 0 ≡ get_or s (b + i) 0
octet-in b n i s h = get_or-take n (drop b s) i 0 h ∙ get_or-drop b s i 0

-- ---- a part replaced

pub replaced-paste : (at n : ℕ) (s ys : List ℕ) → length ys ≡ n → replaced at n s ys ≡ paste s at ys n
replaced-paste at n s ys h =
    rw (take_all n ys (omega arith), append_assoc (take at s) ys (drop (at + n) s), drop-drop n at s) refl

pub replaced-length : (at n : ℕ) (s ys : List ℕ) → at + n ≤ length s → length ys ≡ n → length (replaced at n s ys) ≡ length s
replaced-length at n s ys f h = ap (length {A = ℕ}) (replaced-paste at n s ys h) ∙ length-paste s at ys n f (omega arith)

-- the part itself is the new one
pub replaced-part : (at n : ℕ) (s ys : List ℕ) → at + n ≤ length s → length ys ≡ n → part at n (replaced at n s ys) ≡ ys
replaced-part at n s ys f h =
    ap (take n) (drop_at (take at s) (ys ++ drop n (drop at s)) at (length-take-le at s (omega arith)))
    ∙ take_at ys (drop n (drop at s)) n h

-- what ends before it stays
pub replaced-before : (at n a m : ℕ) (s ys : List ℕ) → at ≤ length s → a + m ≤ at → part a m (replaced at n s ys) ≡ part a m s
replaced-before at n a m s ys f h =
    let l : length (take at s) ≡ at = length-take-le at s f in
    let k : length (drop a (take at s)) ≡ at - a = length-drop a (take at s) ∙ ap (λ (x : ℕ). x - a) l in
    ap (take m) (drop-append-le a (take at s) (ys ++ drop n (drop at s)) (omega arith))
    ∙ take-append-le m (drop a (take at s)) (ys ++ drop n (drop at s)) (omega arith)
    ∙ ap (take m) (drop_of_take a at s (omega arith))
    ∙ take-take m (at - a) (drop a s) (omega arith)

-- what starts behind it stays
pub replaced-behind : (at n a m : ℕ) (s ys : List ℕ) → at + n ≤ length s → length ys ≡ n → at + n ≤ a → part a m (replaced at n s ys) ≡ part a m s
replaced-behind at n a m s ys f h g =
    let l : length (take at s ++ ys) ≡ at + n = length-append (take at s) ys ∙ rw (length-take-le at s (omega arith), h) refl in
    let e : a ≡ at + n + (a - (at + n)) = omega arith in
    let d : drop (at + n) (replaced at n s ys) ≡ drop (at + n) s =
    ap (drop (at + n)) (sym (append_assoc (take at s) ys (drop n (drop at s)))) ∙ drop_at (take at s ++ ys) (drop n (drop at s)) (at + n) l ∙ drop-drop n at s in
    ap (take m) (ap (λ (x : ℕ). drop x (replaced at n s ys)) e
    ∙ sym (drop-drop (a - (at + n)) (at + n) (replaced at n s ys)) ∙ ap (drop (a - (at + n))) d ∙ drop-drop (a - (at + n)) (at + n) s
    ∙ ap (λ (x : ℕ). drop x s) (sym e))

-- a part in which something is replaced
pub part-of-replaced : (b n at m : ℕ) (s ys : List ℕ) → at + m ≤ n → b + n ≤ length s → length ys ≡ m → part b n (replaced (b + at) m s ys) ≡ replaced at m (part b n s) ys
part-of-replaced b n at m s ys h f g =
    let d : List ℕ = drop b s in
    let q : List ℕ = drop m (drop at d) in
    let l : length (take (b + at) s) ≡ b + at = length-take-le (b + at) s (omega arith) in
    let ld : length d ≡ length s - b = length-drop b s in
    let lp : length (take at d) ≡ at = length-take-le at d (omega arith) in
    let e : b + at - b ≡ at = omega arith in
    let a : drop b (replaced (b + at) m s ys) ≡ take at d ++ (ys ++ q) =
    drop-append-le b (take (b + at) s) (ys ++ drop m (drop (b + at) s)) (omega arith)
    ∙ ap (λ (x : List ℕ). x ++ (ys ++ drop m (drop (b + at) s))) (drop_of_take b (b + at) s (omega arith) ∙ ap (λ (i : ℕ). take i d) e)
    ∙ ap (λ (x : List ℕ). take at d ++ (ys ++ drop m x)) (sym (drop-drop at b s)) in
    let n1 : n ≡ length (take at d) + (m + (n - at - m)) = omega arith in
    let n2 : m + (n - at - m) ≡ length ys + (n - at - m) = omega arith in
    let t : take n (take at d ++ (ys ++ q)) ≡ take at d ++ (ys ++ take (n - at - m) q) =
    ap (λ (i : ℕ). take i (take at d ++ (ys ++ q))) n1 ∙ take-append-add (take at d) (ys ++ q) (m + (n - at - m))
    ∙ ap (λ (x : List ℕ). take at d ++ x) (ap (λ (i : ℕ). take i (ys ++ q)) n2 ∙ take-append-add ys q (n - at - m)) in
    let u : drop m (drop at (take n d)) ≡ take (n - at - m) q = ap (drop m) (drop_of_take at n d (omega arith)) ∙ drop_of_take m (n - at) (drop at d) (omega arith) in
    ap (take n) a ∙ t ∙ sym (rw (take-take at n d (omega arith), u) refl)
