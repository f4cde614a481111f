-- A thing put in among things of w octets each, and one taken out: what the moves leave, what it makes of the things' octets, and of the things that octets
-- hold. Assumes nothing.
use Prim.Native.Nat.{ℕ, zero, suc, ◌+◌, ◌-◌, ◌*◌, ◌<◌, ◌≤◌}
use mathlib.Core.Path.{◌≡◌, refl, sym, ap, ◌∙◌}
use mathlib.Core.List.{List, [], ◌∷◌, ◌++◌, append_assoc}
use native.Mathlib.Nat.{add-mul}
use native.Mathlib.Omega.{arith}
use lib.ListN.{length, take, drop, length-drop, length-append, length-replicate, take-append-drop}
use lib.Seq.{take-append-le, take-take, drop-drop, length-take-le, take_all, take_at, drop_at, paste, take-paste, drop-paste}
use Rattle.cells.specs.Cells.{part, replaced, zeros, inserted_at, removed_at, many, many_octets}
use Rattle.cells.proofs.Replaced.{drop_of_take}
use Rattle.cells.proofs.Lists.{many-count}
use Rattle.cells.proofs.Moved.{many-joined, many-of-take, take-many, drop-many, some-many}
use Rattle.cells.proofs.Sets.{Long, long-octets}

-- so many things of w octets and the others, in octets
parted : (w a n : ℕ) → a ≤ n → n * w ≡ a * w + (n - a) * w
parted w a n h = let e : n ≡ a + (n - a) = omega arith in ap (λ (x : ℕ). x * w) e ∙ add-mul a (n - a) w

one_more : (w n : ℕ) → (n + 1) * w ≡ n * w + w
one_more w n = add-mul n 1 w ∙ omega arith

-- ---- the moves

-- the octets from a place on moved up by one thing, and then the thing's octets put in at the place
pub inserted-is : (w n at a e k : ℕ) (s x : List ℕ) → a ≡ at * w → e ≡ n * w → k ≡ w → at ≤ n → e + w ≤ length s → replaced a k (paste s (a + w) (drop a s) (e - a)) x ≡ inserted_at w n at x s
unfolding inserted_at
inserted-is w n at a e k s x p q r h f =
    let z : n * w ≡ at * w + (n - at) * w = parted w at n h in
    let o : (n + 1) * w ≡ n * w + w = one_more w n in
    let m : e - a ≡ (n - at) * w = omega arith in
    let b : a + w + (e - a) ≡ (n + 1) * w = omega arith in
    let l : length (take (a + w) s) ≡ a + w = length-take-le (a + w) s (omega arith) in
    let rest : List ℕ = take (e - a) (drop a s) ++ drop (a + w + (e - a)) s in
    let g : paste s (a + w) (drop a s) (e - a) ≡ take (a + w) s ++ rest = append_assoc (take (a + w) s) (take (e - a) (drop a s)) (drop (a + w + (e - a)) s) in
    let front : take a (take (a + w) s ++ rest) ≡ take a s = take-append-le a (take (a + w) s) rest (omega arith) ∙ take-take a (a + w) s (omega arith) in
    let back : drop k (drop a (take (a + w) s ++ rest)) ≡ rest = rw r (drop-drop w a (take (a + w) s ++ rest) ∙ drop_at (take (a + w) s) rest (a + w) l) in
    ap (λ (t : List ℕ). take a t ++ (x ++ drop k (drop a t))) g
    ∙ ap (λ (t : List ℕ). t ++ (x ++ drop k (drop a (take (a + w) s ++ rest)))) front
    ∙ ap (λ (t : List ℕ). take a s ++ (x ++ t)) back
    ∙ ap (λ (i : ℕ). take a s ++ (x ++ (take i (drop a s) ++ drop (a + w + (e - a)) s))) m
    ∙ ap (λ (i : ℕ). take a s ++ (x ++ (take ((n - at) * w) (drop a s) ++ drop i s))) b
    ∙ ap (λ (i : ℕ). take i s ++ (x ++ (take ((n - at) * w) (drop i s) ++ drop ((n + 1) * w) s))) p

-- the octets behind a thing moved down by one thing, and then the last place cleared
pub removed-is : (w n at a e k : ℕ) (s : List ℕ) → a ≡ at * w → e + w ≡ n * w → k ≡ w → at < n → n * w ≤ length s → replaced e k (paste s a (drop (a + w) s) (e - a)) (zeros w) ≡ removed_at w n at s
unfolding removed_at
removed-is w n at a e k s p q r h f =
    let z : n * w ≡ (at + 1) * w + (n - (at + 1)) * w = parted w (at + 1) n (omega arith) in
    let o : (at + 1) * w ≡ at * w + w = one_more w at in
    let m : e - a ≡ (n - (at + 1)) * w = omega arith in
    let b : a + w ≡ (at + 1) * w = omega arith in
    let d : a + (e - a) ≡ e = omega arith in
    let g : e + w ≡ n * w = q in
    let l : length (drop (a + w) s) ≡ length s - (a + w) = length-drop (a + w) s in
    let t : List ℕ = paste s a (drop (a + w) s) (e - a) in
    let u : List ℕ = take (e - a) (drop (a + w) s) in
    let front : take e t ≡ take a s ++ u = ap (λ (i : ℕ). take i t) (sym d) ∙ take-paste s a (drop (a + w) s) (e - a) (omega arith) (omega arith) in
    let behind : drop e t ≡ drop e s = ap (λ (i : ℕ). drop i t) (sym d) ∙ drop-paste s a (drop (a + w) s) (e - a) (omega arith) (omega arith) ∙ ap (λ (i : ℕ). drop i s) d in
    let back : drop k (drop e t) ≡ drop (n * w) s = ap (drop k) behind ∙ ap (λ (i : ℕ). drop i (drop e s)) r ∙ drop-drop w e s ∙ ap (λ (i : ℕ). drop i s) g in
    ap (λ (y : List ℕ). y ++ (zeros w ++ drop k (drop e t))) front
    ∙ ap (λ (y : List ℕ). take a s ++ u ++ (zeros w ++ y)) back
    ∙ append_assoc (take a s) u (zeros w ++ drop (n * w) s)
    ∙ ap (λ (i : ℕ). take a s ++ (take i (drop (a + w) s) ++ (zeros w ++ drop (n * w) s))) m
    ∙ ap (λ (i : ℕ). take a s ++ (take ((n - (at + 1)) * w) (drop i s) ++ (zeros w ++ drop (n * w) s))) b
    ∙ ap (λ (i : ℕ). take i s ++ (take ((n - (at + 1)) * w) (drop ((at + 1) * w) s) ++ (zeros w ++ drop (n * w) s))) p

-- the same, of what two calls left: the octets behind the move, and the part that was lent then
pub inserted_by : (w n at a e k : ℕ) (s m x y : List ℕ) → m ≡ paste s (a + w) (drop a s) (e - a) → y ≡ x → a ≡ at * w → e ≡ n * w → k ≡ w → at ≤ n → e + w ≤ length s → replaced a k m y ≡ inserted_at w n at x s
inserted_by w n at a e k s m x y f g p q r h l =
    ap (λ (t : List ℕ). replaced a k t y) f ∙ ap (λ (t : List ℕ). replaced a k (paste s (a + w) (drop a s) (e - a)) t) g ∙ inserted-is w n at a e k s x p q r h l

pub removed-by : (w n at a e k : ℕ) (s m y : List ℕ) → m ≡ paste s a (drop (a + w) s) (e - a) → y ≡ zeros w → a ≡ at * w → e + w ≡ n * w → k ≡ w → at < n → n * w ≤ length s → replaced e k m y ≡ removed_at w n at s
removed-by w n at a e k s m y f g p q r h l =
    ap (λ (t : List ℕ). replaced e k t y) f ∙ ap (λ (t : List ℕ). replaced e k (paste s a (drop (a + w) s) (e - a)) t) g ∙ removed-is w n at a e k s p q r h l

-- ---- octets that are so parted

-- before the place, behind it, the free place, the rest
inserted-joined : (w n at : ℕ) (p q y r x : List ℕ) → length p ≡ at * w → length q ≡ (n - at) * w → length y ≡ w → at ≤ n
    → inserted_at w n at x (p ++ (q ++ (y ++ r))) ≡ p ++ (x ++ (q ++ r))
unfolding inserted_at
inserted-joined w n at p q y r x f g h c =
    let z : n * w ≡ at * w + (n - at) * w = parted w at n c in
    let o : (n + 1) * w ≡ n * w + w = one_more w n in
    let i : at * w + ((n - at) * w + w) ≡ (n + 1) * w = omega arith in
    let d : drop (at * w) (p ++ (q ++ (y ++ r))) ≡ q ++ (y ++ r) = drop_at p (q ++ (y ++ r)) (at * w) f in
    let e : drop ((n - at) * w + w) (q ++ (y ++ r)) ≡ r = sym (drop-drop w ((n - at) * w) (q ++ (y ++ r))) ∙ ap (drop w) (drop_at q (y ++ r) ((n - at) * w) g) ∙ drop_at y r w h in
    let b : drop ((n + 1) * w) (p ++ (q ++ (y ++ r))) ≡ r =
    ap (λ (j : ℕ). drop j (p ++ (q ++ (y ++ r)))) (sym i) ∙ sym (drop-drop ((n - at) * w + w) (at * w) (p ++ (q ++ (y ++ r)))) ∙ ap (drop ((n - at) * w + w)) d ∙ e in
    rw (take_at p (q ++ (y ++ r)) (at * w) f, d, take_at q (y ++ r) ((n - at) * w) g, b)

-- before the thing, the thing, behind it, the rest
removed-joined : (w n at : ℕ) (p y q r : List ℕ) → length p ≡ at * w → length y ≡ w → length q ≡ (n - (at + 1)) * w → at < n
    → removed_at w n at (p ++ (y ++ (q ++ r))) ≡ p ++ (q ++ (zeros w ++ r))
unfolding removed_at
removed-joined w n at p y q r f h g c =
    let z : n * w ≡ (at + 1) * w + (n - (at + 1)) * w = parted w (at + 1) n (omega arith) in
    let o : (at + 1) * w ≡ at * w + w = one_more w at in
    let i : at * w + w + (n - (at + 1)) * w ≡ n * w = omega arith in
    let s : List ℕ = p ++ (y ++ (q ++ r)) in
    let d : drop (at * w + w) s ≡ q ++ r = sym (drop-drop w (at * w) s) ∙ ap (drop w) (drop_at p (y ++ (q ++ r)) (at * w) f) ∙ drop_at y (q ++ r) w h in
    let b : drop (n * w) s ≡ r =
    ap (λ (j : ℕ). drop j s) (sym i) ∙ sym (drop-drop ((n - (at + 1)) * w) (at * w + w) s) ∙ ap (drop ((n - (at + 1)) * w)) d ∙ drop_at q r ((n - (at + 1)) * w) g in
    rw (o, d, take_at p (y ++ (q ++ r)) (at * w) f, take_at q r ((n - (at + 1)) * w) g, b)

-- ---- as many octets as before, and those behind the things stay

pub inserted-long : (w n at : ℕ) (x s : List ℕ) → at ≤ n → (n + 1) * w ≤ length s → length x ≡ w → length (inserted_at w n at x s) ≡ length s
unfolding inserted_at
inserted-long w n at x s h f g =
    let z : n * w ≡ at * w + (n - at) * w = parted w at n h in
    let o : (n + 1) * w ≡ n * w + w = one_more w n in
    let d : length (drop (at * w) s) ≡ length s - at * w = length-drop (at * w) s in
    let l : length (take (at * w) s) ≡ at * w = length-take-le (at * w) s (omega arith) in
    let m : length (part (at * w) ((n - at) * w) s) ≡ (n - at) * w = length-take-le ((n - at) * w) (drop (at * w) s) (omega arith) in
    let r : length (drop ((n + 1) * w) s) ≡ length s - (n + 1) * w = length-drop ((n + 1) * w) s in
    simp length-append (omega arith)

pub removed-long : (w n at : ℕ) (s : List ℕ) → at < n → n * w ≤ length s → length (removed_at w n at s) ≡ length s
unfolding removed_at
removed-long w n at s h f =
    let z : n * w ≡ (at + 1) * w + (n - (at + 1)) * w = parted w (at + 1) n (omega arith) in
    let o : (at + 1) * w ≡ at * w + w = one_more w at in
    let d : length (drop ((at + 1) * w) s) ≡ length s - (at + 1) * w = length-drop ((at + 1) * w) s in
    let l : length (take (at * w) s) ≡ at * w = length-take-le (at * w) s (omega arith) in
    let m : length (part ((at + 1) * w) ((n - (at + 1)) * w) s) ≡ (n - (at + 1)) * w = length-take-le ((n - (at + 1)) * w) (drop ((at + 1) * w) s) (omega arith) in
    let r : length (drop (n * w) s) ≡ length s - n * w = length-drop (n * w) s in
    let v : length (zeros w) ≡ w = length-replicate w 0 in
    simp length-append (omega arith)

behind-joined : (p s : List ℕ) (m b : ℕ) → length p ≡ m → m ≤ b → drop b (p ++ drop m s) ≡ drop b s
behind-joined p s m b l h =
    let e : m + (b - m) ≡ b = omega arith in
    ap (λ (i : ℕ). drop i (p ++ drop m s)) (sym e) ∙ sym (drop-drop (b - m) m (p ++ drop m s)) ∙ ap (drop (b - m)) (drop_at p (drop m s) m l) ∙ drop-drop (b - m) m s
    ∙ ap (λ (i : ℕ). drop i s) e

pub inserted-behind : (w n at b : ℕ) (x s : List ℕ) → at ≤ n → (n + 1) * w ≤ length s → length x ≡ w → (n + 1) * w ≤ b → drop b (inserted_at w n at x s) ≡ drop b s
unfolding inserted_at
inserted-behind w n at b x s h f g c =
    let z : n * w ≡ at * w + (n - at) * w = parted w at n h in
    let o : (n + 1) * w ≡ n * w + w = one_more w n in
    let d : length (drop (at * w) s) ≡ length s - at * w = length-drop (at * w) s in
    let l : length (take (at * w) s) ≡ at * w = length-take-le (at * w) s (omega arith) in
    let m : length (part (at * w) ((n - at) * w) s) ≡ (n - at) * w = length-take-le ((n - at) * w) (drop (at * w) s) (omega arith) in
    let front : List ℕ = take (at * w) s ++ (x ++ part (at * w) ((n - at) * w) s) in
    let v : length front ≡ (n + 1) * w = simp length-append (omega arith) in
    let e : inserted_at w n at x s ≡ front ++ drop ((n + 1) * w) s = simp append_assoc in
    ap (drop b) e ∙ behind-joined front s ((n + 1) * w) b v c

pub removed-behind : (w n at b : ℕ) (s : List ℕ) → at < n → n * w ≤ length s → n * w ≤ b → drop b (removed_at w n at s) ≡ drop b s
unfolding removed_at
removed-behind w n at b s h f c =
    let z : n * w ≡ (at + 1) * w + (n - (at + 1)) * w = parted w (at + 1) n (omega arith) in
    let o : (at + 1) * w ≡ at * w + w = one_more w at in
    let d : length (drop ((at + 1) * w) s) ≡ length s - (at + 1) * w = length-drop ((at + 1) * w) s in
    let l : length (take (at * w) s) ≡ at * w = length-take-le (at * w) s (omega arith) in
    let m : length (part ((at + 1) * w) ((n - (at + 1)) * w) s) ≡ (n - (at + 1)) * w = length-take-le ((n - (at + 1)) * w) (drop ((at + 1) * w) s) (omega arith) in
    let y : length (zeros w) ≡ w = length-replicate w 0 in
    let front : List ℕ = take (at * w) s ++ (part ((at + 1) * w) ((n - (at + 1)) * w) s ++ zeros w) in
    let v : length front ≡ n * w = simp length-append (omega arith) in
    let e : removed_at w n at s ≡ front ++ drop (n * w) s = simp append_assoc in
    ap (drop b) e ∙ behind-joined front s (n * w) b v c

-- ---- the octets of a list's things

module _ {A : Type 0} (to : A → List ℕ) where
  pub octets-append : (l m : List A) → many_octets to (l ++ m) ≡ many_octets to l ++ many_octets to m
  unfolding many_octets
  octets-append [] m = refl
  octets-append (x ∷ l) m = ap (λ (r : List ℕ). to x ++ r) (octets-append l m) ∙ sym (append_assoc (to x) (many_octets to l) (many_octets to m))

  module _ (w : ℕ) where
    pub long-take : (n : ℕ) (l : List A) → Long to w l → Long to w (take n l)
    long-take zero l g = tt
    long-take (suc n) [] g = tt
    long-take (suc n) (x ∷ l) g = (g.0, long-take n l g.1)

    pub long-drop : (n : ℕ) (l : List A) → Long to w l → Long to w (drop n l)
    long-drop zero l g = g
    long-drop (suc n) [] g = tt
    long-drop (suc n) (x ∷ l) g = long-drop n l g.1

    front-long : (n : ℕ) (l : List A) → n ≤ length l → Long to w l → length (many_octets to (take n l)) ≡ n * w
    front-long n l h g = let e : length (take n l) ≡ n = length-take-le n l h in long-octets to w (take n l) (long-take n l g) ∙ rw e (omega arith)

    back_long : (n : ℕ) (l : List A) → Long to w l → length (many_octets to (drop n l)) ≡ (length l - n) * w
    back_long n l g = let e : length (drop n l) ≡ length l - n = length-drop n l in long-octets to w (drop n l) (long-drop n l g) ∙ rw e (omega arith)

    -- one put in where a place is free behind the list
    pub octets-inserted : (l r : List A) (at : ℕ) (x y : A) → at ≤ length l → Long to w l → length (to y) ≡ w
        → inserted_at w (length l) at (to x) (many_octets to (l ++ y ∷ r)) ≡ many_octets to ((take at l ++ x ∷ drop at l) ++ r)
    unfolding many_octets
    octets-inserted l r at x y h g k =
        let p : List ℕ = many_octets to (take at l) in
        let q : List ℕ = many_octets to (drop at l) in
        let m : List ℕ = many_octets to r in
        let e : many_octets to l ≡ p ++ q = ap (many_octets to) (sym (take-append-drop at l)) ∙ octets-append (take at l) (drop at l) in
        let a : many_octets to (l ++ y ∷ r) ≡ p ++ (q ++ (to y ++ m)) = octets-append l (y ∷ r) ∙ ap (λ (t : List ℕ). t ++ (to y ++ m)) e ∙ append_assoc p q (to y ++ m) in
        let b : many_octets to ((take at l ++ x ∷ drop at l) ++ r) ≡ p ++ (to x ++ (q ++ m)) =
        octets-append (take at l ++ x ∷ drop at l) r ∙ ap (λ (t : List ℕ). t ++ m) (octets-append (take at l) (x ∷ drop at l)) ∙ append_assoc p (to x ++ q) m ∙ ap (λ (t : List ℕ). p ++ t) (append_assoc (to x) q m) in
        ap (inserted_at w (length l) at (to x)) a ∙ inserted-joined w (length l) at p q (to y) m (to x) (front-long at l h g) (back_long at l g) k h ∙ sym b

    -- one taken out: its place becomes a free one behind the others
    pub octets-removed : (l r : List A) (at : ℕ) (z : A) → at < length l → Long to w l → to z ≡ zeros w
        → removed_at w (length l) at (many_octets to (l ++ r)) ≡ many_octets to ((take at l ++ drop (at + 1) l) ++ z ∷ r)
    unfolding many_octets
    octets-removed l r at z h g k =
        let p : List ℕ = many_octets to (take at l) in
        let q : List ℕ = many_octets to (drop (at + 1) l) in
        let y : List ℕ = many_octets to (take 1 (drop at l)) in
        let m : List ℕ = many_octets to r in
        let d : length (drop at l) ≡ length l - at = length-drop at l in
        let v : length y ≡ w = front-long 1 (drop at l) (omega arith) (long-drop at l g) ∙ omega arith in
        let c : drop at l ≡ take 1 (drop at l) ++ drop (at + 1) l = sym (take-append-drop 1 (drop at l)) ∙ ap (λ (t : List A). take 1 (drop at l) ++ t) (drop-drop 1 at l) in
        let e : many_octets to l ≡ p ++ (y ++ q) = ap (many_octets to) (sym (take-append-drop at l)) ∙ octets-append (take at l) (drop at l)
        ∙ ap (λ (t : List ℕ). p ++ t) (ap (many_octets to) c ∙ octets-append (take 1 (drop at l)) (drop (at + 1) l)) in
        let a : many_octets to (l ++ r) ≡ p ++ (y ++ (q ++ m)) = octets-append l r ∙ ap (λ (t : List ℕ). t ++ m) e ∙ append_assoc p (y ++ q) m ∙ ap (λ (t : List ℕ). p ++ t) (append_assoc y q m) in
        let b : many_octets to ((take at l ++ drop (at + 1) l) ++ z ∷ r) ≡ p ++ (q ++ (zeros w ++ m)) =
        octets-append (take at l ++ drop (at + 1) l) (z ∷ r) ∙ ap (λ (t : List ℕ). t ++ (to z ++ m)) (octets-append (take at l) (drop (at + 1) l)) ∙ append_assoc p q (to z ++ m)
        ∙ ap (λ (t : List ℕ). p ++ (q ++ (t ++ m))) k in
        ap (removed_at w (length l) at) a ∙ removed-joined w (length l) at p y q m (front-long at l (omega arith) g) v (back_long (at + 1) l g) h ∙ sym b

-- ---- the things that octets hold

module _ {A : Type 0} (f : List ℕ → A) (w : ℕ) where
  first-many : (n a : ℕ) (s : List ℕ) → a ≤ n → many f w a s ≡ take a (many f w n s)
  first-many n a s h = let e : n ≡ a + (n - a) = omega arith in rw e (sym (take-many f w a (n - a) s))

  last-many : (n a : ℕ) (s : List ℕ) → a ≤ n → many f w (n - a) (drop (a * w) s) ≡ drop a (many f w n s)
  last-many n a s h = let e : a + (n - a) ≡ n = omega arith in sym (drop-many f w a (n - a) s) ∙ ap (λ (i : ℕ). drop a (many f w i s)) e

  pub many-inserted : (n m at : ℕ) (x s : List ℕ) → at ≤ m → m < n → n * w ≤ length s → length x ≡ w
      → many f w n (inserted_at w m at x s) ≡ take at (many f w n s) ++ f x ∷ (take (m - at) (drop at (many f w n s)) ++ drop (m + 1) (many f w n s))
  unfolding inserted_at many
  many-inserted n m at x s h g k l =
      let d : ℕ = m - at in
      let c : ℕ = n - (m + 1) in
      let e : n ≡ at + (1 + (d + c)) = omega arith in
      let z : m * w ≡ at * w + d * w = parted w at m h in
      let o : (m + 1) * w ≡ m * w + w = one_more w m in
      let y : n * w ≡ (m + 1) * w + c * w = parted w (m + 1) n (omega arith) in
      let u : 1 * w ≡ w = omega arith in
      let ld : length (drop (at * w) s) ≡ length s - at * w = length-drop (at * w) s in
      let p : List ℕ = take (at * w) s in
      let q : List ℕ = part (at * w) (d * w) s in
      let r : List ℕ = drop ((m + 1) * w) s in
      let lp : length p ≡ at * w = length-take-le (at * w) s (omega arith) in
      let lq : length q ≡ d * w = length-take-le (d * w) (drop (at * w) s) (omega arith) in
      let a1 : many f w at p ≡ take at (many f w n s) = many-of-take f w at s ∙ first-many n at s (omega arith) in
      let a2 : many f w d q ≡ take d (drop at (many f w n s)) = many-of-take f w d (drop (at * w) s) ∙ some-many f w n at d s (omega arith) in
      let a3 : many f w c r ≡ drop (m + 1) (many f w n s) = last-many n (m + 1) s (omega arith) in
      let a4 : many f w 1 x ≡ f x ∷ [] = ap (λ (t : List ℕ). f t ∷ []) (take_all w x (omega arith)) in
      ap (λ (i : ℕ). many f w i (p ++ (x ++ (q ++ r)))) e
      ∙ many-joined f w at (1 + (d + c)) p (x ++ (q ++ r)) lp
      ∙ ap (λ (t : List A). many f w at p ++ t) (many-joined f w 1 (d + c) x (q ++ r) (l ∙ sym u))
      ∙ ap (λ (t : List A). many f w at p ++ (many f w 1 x ++ t)) (many-joined f w d c q r lq)
      ∙ ap (λ (t : List A). t ++ (many f w 1 x ++ (many f w d q ++ many f w c r))) a1
      ∙ ap (λ (t : List A). take at (many f w n s) ++ (t ++ (many f w d q ++ many f w c r))) a4
      ∙ ap (λ (t : List A). take at (many f w n s) ++ f x ∷ (t ++ many f w c r)) a2
      ∙ ap (λ (t : List A). take at (many f w n s) ++ f x ∷ (take d (drop at (many f w n s)) ++ t)) a3

  -- of those that are used
  pub used-inserted : (n m at : ℕ) (x s : List ℕ) → at ≤ m → m < n → n * w ≤ length s → length x ≡ w
      → take (m + 1) (many f w n (inserted_at w m at x s)) ≡ take at (take m (many f w n s)) ++ f x ∷ drop at (take m (many f w n s))
  used-inserted n m at x s h g k l =
      let t : List A = many f w n s in
      let a : List A = take at t in
      let b : List A = take (m - at) (drop at t) in
      let v : length t ≡ n = many-count f w n s in
      let la : length a ≡ at = length-take-le at t (omega arith) in
      let ld : length (drop at t) ≡ length t - at = length-drop at t in
      let lb : length b ≡ m - at = length-take-le (m - at) (drop at t) (omega arith) in
      let lj : length (a ++ f x ∷ b) ≡ m + 1 = simp length-append (omega arith) in
      let e : a ++ f x ∷ (b ++ drop (m + 1) t) ≡ (a ++ f x ∷ b) ++ drop (m + 1) t = sym (append_assoc a (f x ∷ b) (drop (m + 1) t)) in
      ap (take (m + 1)) (many-inserted n m at x s h g k l ∙ e) ∙ take_at (a ++ f x ∷ b) (drop (m + 1) t) (m + 1) lj
      ∙ ap (λ (y : List A). y ++ f x ∷ b) (sym (take-take at m t h)) ∙ ap (λ (y : List A). take at (take m t) ++ f x ∷ y) (sym (drop_of_take at m t h))

  pub many-removed : (n m at : ℕ) (s : List ℕ) → at < m → m ≤ n → n * w ≤ length s
      → many f w n (removed_at w m at s) ≡ take at (many f w n s) ++ (take (m - (at + 1)) (drop (at + 1) (many f w n s)) ++ f (zeros w) ∷ drop m (many f w n s))
  unfolding removed_at many
  many-removed n m at s h g k =
      let d : ℕ = m - (at + 1) in
      let c : ℕ = n - m in
      let e : n ≡ at + (d + (1 + c)) = omega arith in
      let z : m * w ≡ (at + 1) * w + d * w = parted w (at + 1) m (omega arith) in
      let o : (at + 1) * w ≡ at * w + w = one_more w at in
      let y : n * w ≡ m * w + c * w = parted w m n g in
      let u : 1 * w ≡ w = omega arith in
      let ld : length (drop ((at + 1) * w) s) ≡ length s - (at + 1) * w = length-drop ((at + 1) * w) s in
      let p : List ℕ = take (at * w) s in
      let q : List ℕ = part ((at + 1) * w) (d * w) s in
      let r : List ℕ = drop (m * w) s in
      let lp : length p ≡ at * w = length-take-le (at * w) s (omega arith) in
      let lq : length q ≡ d * w = length-take-le (d * w) (drop ((at + 1) * w) s) (omega arith) in
      let lz : length (zeros w) ≡ w = length-replicate w 0 in
      let a1 : many f w at p ≡ take at (many f w n s) = many-of-take f w at s ∙ first-many n at s (omega arith) in
      let a2 : many f w d q ≡ take d (drop (at + 1) (many f w n s)) = many-of-take f w d (drop ((at + 1) * w) s) ∙ some-many f w n (at + 1) d s (omega arith) in
      let a3 : many f w c r ≡ drop m (many f w n s) = last-many n m s g in
      let a4 : many f w 1 (zeros w) ≡ f (zeros w) ∷ [] = ap (λ (t : List ℕ). f t ∷ []) (take_all w (zeros w) (omega arith)) in
      ap (λ (i : ℕ). many f w i (p ++ (q ++ (zeros w ++ r)))) e
      ∙ many-joined f w at (d + (1 + c)) p (q ++ (zeros w ++ r)) lp
      ∙ ap (λ (t : List A). many f w at p ++ t) (many-joined f w d (1 + c) q (zeros w ++ r) lq)
      ∙ ap (λ (t : List A). many f w at p ++ (many f w d q ++ t)) (many-joined f w 1 c (zeros w) r (lz ∙ sym u))
      ∙ ap (λ (t : List A). t ++ (many f w d q ++ (many f w 1 (zeros w) ++ many f w c r))) a1
      ∙ ap (λ (t : List A). take at (many f w n s) ++ (t ++ (many f w 1 (zeros w) ++ many f w c r))) a2
      ∙ ap (λ (t : List A). take at (many f w n s) ++ (take d (drop (at + 1) (many f w n s)) ++ (t ++ many f w c r))) a4
      ∙ ap (λ (t : List A). take at (many f w n s) ++ (take d (drop (at + 1) (many f w n s)) ++ f (zeros w) ∷ t)) a3

  pub used-removed : (n m at : ℕ) (s : List ℕ) → at < m → m ≤ n → n * w ≤ length s
      → take (m - 1) (many f w n (removed_at w m at s)) ≡ take at (take m (many f w n s)) ++ drop (at + 1) (take m (many f w n s))
  used-removed n m at s h g k =
      let t : List A = many f w n s in
      let a : List A = take at t in
      let b : List A = take (m - (at + 1)) (drop (at + 1) t) in
      let r : List A = f (zeros w) ∷ drop m t in
      let v : length t ≡ n = many-count f w n s in
      let la : length a ≡ at = length-take-le at t (omega arith) in
      let ld : length (drop (at + 1) t) ≡ length t - (at + 1) = length-drop (at + 1) t in
      let lb : length b ≡ m - (at + 1) = length-take-le (m - (at + 1)) (drop (at + 1) t) (omega arith) in
      let lj : length (a ++ b) ≡ m - 1 = simp length-append (omega arith) in
      ap (take (m - 1)) (many-removed n m at s h g k ∙ sym (append_assoc a b r)) ∙ take_at (a ++ b) r (m - 1) lj
      ∙ ap (λ (y : List A). y ++ b) (sym (take-take at m t (omega arith))) ∙ ap (λ (y : List A). take at (take m t) ++ y) (sym (drop_of_take (at + 1) m t (omega arith)))
