-- Octets moved up within the slice that they lie in: what is left is a copy. Assumes nothing.
use Prim.Native.Nat.{ℕ, suc, ◌+◌, ◌-◌, ◌<◌, ◌≤◌}
use mathlib.Core.Path.{◌≡◌, refl, sym, ap, ◌∙◌}
use mathlib.Core.List.{List, [], ◌∷◌, ◌++◌, append_assoc}
use native.Mathlib.Omega.{arith}
use lib.ListN.{length, take, drop, set, get_or, length-set, length-append, get_or-append}
use lib.Seq.{paste, paste-zero, get_or-take, length-take-le, drop-cons, take-suc, set_at}

module _ {A : Type 0} where
  -- a cell before the copy
  before : (m z : List A) (at n i : ℕ) (d : A) → at ≤ length m → i < at → get_or (paste m at z n) i d ≡ get_or m i d
  before m z at n i d f h =
      let l : length (take at m) ≡ at = length-take-le at m f in
      let k : length (take at m ++ take n z) ≡ length (take at m) + length (take n z) = length-append (take at m) (take n z) in
      get_or-append (take at m ++ take n z) (drop (at + n) m) d i (omega arith) ∙ get_or-append (take at m) (take n z) d i (omega arith) ∙ get_or-take at m i d h

  -- one more in front of the copy
  one_up : (m : List A) (p j q : ℕ) (d : A) → suc p + q ≤ length m → suc j + q ≤ length m → set (paste m (suc p) (drop (suc j) m) q) p (get_or m j d) ≡ paste m p (drop j m) (suc q)
  one_up m p j q d f g =
      let t : take (suc p) m ≡ take p m ++ (get_or m p d ∷ []) = take-suc m p d (omega arith) in
      let r : List A = take q (drop (suc j) m) ++ drop (suc p + q) m in
      let s : drop j m ≡ get_or m j d ∷ drop (suc j) m = drop-cons m j d (omega arith) in
      let a : paste m (suc p) (drop (suc j) m) q ≡ take p m ++ get_or m p d ∷ r =
      append_assoc (take (suc p) m) (take q (drop (suc j) m)) (drop (suc p + q) m) ∙ ap (λ (x : List A). x ++ r) t ∙ append_assoc (take p m) (get_or m p d ∷ []) r in
      let e : suc p + q ≡ p + suc q = omega arith in
      ap (λ (x : List A). set x p (get_or m j d)) a ∙ set_at (take p m) (get_or m p d) r (get_or m j d) p (length-take-le p m (omega arith))
      ∙ ap (λ (i : ℕ). take p m ++ get_or m j d ∷ (take q (drop (suc j) m) ++ drop i m)) e
      ∙ sym (append_assoc (take p m) (take (suc q) (get_or m j d ∷ drop (suc j) m)) (drop (p + suc q) m))
      ∙ ap (λ (x : List A). take p m ++ take (suc q) x ++ drop (p + suc q) m) (sym s)

  pub record Raised (l m : List A) (from to by k : ℕ) : Type 0 where
    pub least : from ≤ k
    pub most : k ≤ to
    pub room : to + by ≤ length m
    pub long : length l ≡ length m
    pub is : l ≡ paste m (k + by) (drop k m) (to - k)

  pub raised-none : (l : List A) (from to by : ℕ) → from ≤ to → to + by ≤ length l → Raised l l from to by to
  raised-none l from to by h f =
      let z : to - to ≡ 0 = omega arith in
      record { least = h; most = omega arith; room = f; long = refl; is = rw z (paste-zero l (to + by) (drop to l)) }

  pub raised-more : (l m : List A) (from to by k j : ℕ) (d : A) → Raised l m from to by k → from < k → j ≡ k - 1 → Raised (set l (j + by) (get_or l j d)) m from to by j
  raised-more l m from to by k j d p h e =
      let most : k ≤ to = p.most in
      let room : to + by ≤ length m = p.room in
      let e1 : k ≡ suc j = omega arith in
      let e2 : k + by ≡ suc (j + by) = omega arith in
      let e3 : to - j ≡ suc (to - k) = omega arith in
      let g : get_or l j d ≡ get_or m j d =
      ap (λ (x : List A). get_or x j d) p.is ∙ before m (drop k m) (k + by) (to - k) j d (omega arith) (omega arith) in
      record {
        least = omega arith;
        most = omega arith;
        room = p.room;
        long = length-set l (j + by) (get_or l j d) ∙ p.long;
        is =
            ap (λ (v : A). set l (j + by) v) g
            ∙ ap (λ (x : List A). set x (j + by) (get_or m j d)) (p.is ∙ ap (λ (i : ℕ). paste m i (drop k m) (to - k)) e2 ∙ ap (λ (i : ℕ). paste m (suc (j + by)) (drop i m) (to - k)) e1)
            ∙ one_up m (j + by) j (to - k) d (omega arith) (omega arith)
            ∙ ap (λ (i : ℕ). paste m (j + by) (drop j m) i) (sym e3);
      }

  pub raised-done : (l m : List A) (from to by k : ℕ) → Raised l m from to by k → k ≤ from → l ≡ paste m (from + by) (drop from m) (to - from)
  raised-done l m from to by k p h = let least : from ≤ k = p.least in let e : k ≡ from = omega arith in rw e at p.is
