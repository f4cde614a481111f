-- Cells of w octets each, the used ones first and cells of 0 behind them: what it makes of their octets to put in, change or take out the octets of one. A table has its rows so, and
-- a row its recipients. Assumes nothing.
use Prim.Native.Nat.{ℕ, zero, suc, ◌+◌, ◌-◌, ◌*◌, ◌<◌, ◌≤◌}
use mathlib.Core.Path.{◌≡◌, refl, sym, ap, ◌∙◌}
use mathlib.Core.List.{List, [], ◌∷◌, ◌++◌, map, append_assoc}
use native.Mathlib.Omega.{arith}
use lib.ListN.{length, take, drop, set, get_or, replicate, length-append, length-drop, length-set, length-map, length-replicate, get_or-append, get_or-map}
use lib.Seq.{take_at, drop_at, take-append-le, drop-append-le, length-take-le, split_at, set_split, set-append_left}
use Rattle.cells.specs.Cells.{part, replaced, zeros, inserted_at, removed_at, many_octets, Each}
use Rattle.cells.proofs.Parts.{join}
use Rattle.cells.proofs.Sets.{Long, long-octets}
use Rattle.cells.proofs.Inserted.{octets-append, octets-inserted, octets-removed, long-take}
use Rattle.transitions.specs.Octets.{within}

-- ---- a property of each

module _ {A : Type 0} (P : A → Type 0) where
  pub each_append : (l m : List A) → Each P l → Each P m → Each P (l ++ m)
  each_append [] m g h = h
  each_append (x ∷ l) m g h = (g.0, each_append l m g.1 h)

  pub each_at : (l : List A) (i : ℕ) (d : A) → i < length l → Each P l → P (get_or l i d)
  each_at [] i d h g = absurd (omega arith)
  each_at (x ∷ l) zero d h g = g.0
  each_at (x ∷ l) (suc i) d h g = each_at l i d (omega arith) g.1

-- ---- a list's beginning, its end and one of it, behind a function

module _ {A B : Type 0} (f : A → B) where
  map-append : (l m : List A) → map f (l ++ m) ≡ map f l ++ map f m
  map-append [] m = refl
  map-append (x ∷ l) m = ap (λ (r : List B). f x ∷ r) (map-append l m)

  map-take : (n : ℕ) (l : List A) → map f (take n l) ≡ take n (map f l)
  map-take zero l = refl
  map-take (suc n) [] = refl
  map-take (suc n) (x ∷ l) = ap (λ (r : List B). f x ∷ r) (map-take n l)

  map-drop : (n : ℕ) (l : List A) → map f (drop n l) ≡ drop n (map f l)
  map-drop zero l = refl
  map-drop (suc n) [] = refl
  map-drop (suc n) (x ∷ l) = map-drop n l

  map-set : (l : List A) (i : ℕ) (y : A) → set (map f l) i (f y) ≡ map f (set l i y)
  map-set [] i y = refl
  map-set (x ∷ l) zero y = refl
  map-set (x ∷ l) (suc i) y = ap (λ (r : List B). f x ∷ r) (map-set l i y)

-- ---- octets that stand one behind the other

-- the part x replaced by y
pub replaced-joined : (p x r y : List ℕ) (a n : ℕ) → length p ≡ a → length x ≡ n → replaced a n (p ++ (x ++ r)) y ≡ p ++ (y ++ r)
replaced-joined p x r y a n f g = rw (take_at p (x ++ r) a f, drop_at p (x ++ r) a f, drop_at x r n g) refl

-- the part x changed into y
pub within-joined : (p x r y : List ℕ) (a n : ℕ) (f : List ℕ → List ℕ) → length p ≡ a → length x ≡ n → f x ≡ y → within a n f (p ++ (x ++ r)) ≡ p ++ (y ++ r)
within-joined p x r y a n f h g e =
    let q : part a n (p ++ (x ++ r)) ≡ x = ap (take n) (drop_at p (x ++ r) a h) ∙ take_at x r n g in
    ap (λ (z : List ℕ). replaced a n (p ++ (x ++ r)) (f z)) q ∙ ap (replaced a n (p ++ (x ++ r))) e ∙ replaced-joined p x r y a n h g

-- a thing put in among those in front of r, or taken out of them, leaves r
pub inserted-front : (w n at : ℕ) (x s r : List ℕ) → at * w + (n - at) * w ≤ length s → (n + 1) * w ≤ length s → inserted_at w n at x (s ++ r) ≡ inserted_at w n at x s ++ r
unfolding inserted_at
inserted-front w n at x s r h g =
    let l : length (drop (at * w) s) ≡ length s - at * w = length-drop (at * w) s in
    let d : part (at * w) ((n - at) * w) (s ++ r) ≡ part (at * w) ((n - at) * w) s =
    ap (take ((n - at) * w)) (drop-append-le (at * w) s r (omega arith)) ∙ take-append-le ((n - at) * w) (drop (at * w) s) r (omega arith) in
    rw (take-append-le (at * w) s r (omega arith), d, drop-append-le ((n + 1) * w) s r g) (simp append_assoc)

pub removed-front : (w n at : ℕ) (s r : List ℕ) → (at + 1) * w + (n - (at + 1)) * w ≤ length s → at * w ≤ length s → n * w ≤ length s → removed_at w n at (s ++ r) ≡ removed_at w n at s ++ r
unfolding removed_at
removed-front w n at s r h f g =
    let l : length (drop ((at + 1) * w) s) ≡ length s - (at + 1) * w = length-drop ((at + 1) * w) s in
    let d : part ((at + 1) * w) ((n - (at + 1)) * w) (s ++ r) ≡ part ((at + 1) * w) ((n - (at + 1)) * w) s =
    ap (take ((n - (at + 1)) * w)) (drop-append-le ((at + 1) * w) s r (omega arith)) ∙ take-append-le ((n - (at + 1)) * w) (drop ((at + 1) * w) s) r (omega arith) in
    rw (take-append-le (at * w) s r f, d, drop-append-le (n * w) s r g) (simp append_assoc)

-- ---- things of w octets each

module _ {B : Type 0} (to : B → List ℕ) (w : ℕ) where
  -- one of those between p and q changed
  changed : (p q : List ℕ) (a : ℕ) (l : List B) (at : ℕ) (x y : B) (f : List ℕ → List ℕ) → length p ≡ a → at < length l → get_or l at x ≡ x → Long to w l → f (to x) ≡ to y
      → within (a + at * w) w f (p ++ many_octets to l ++ q) ≡ p ++ many_octets to (set l at y) ++ q
  unfolding many_octets
  changed p q a l at x y f lp h e g c =
      let front : List ℕ = many_octets to (take at l) in
      let back : List ℕ = many_octets to (drop (suc at) l) in
      let lt : length (take at l) ≡ at = length-take-le at l (omega arith) in
      let lf : length front ≡ at * w = long-octets to w (take at l) (long-take to w at l g) ∙ rw lt (omega arith) in
      let lx : length (to x) ≡ w = ap (λ (z : B). length (to z)) (sym e) ∙ each_at (λ (z : B). length (to z) ≡ w) l at x h g in
      let parts : (z : B) → p ++ many_octets to (take at l ++ z ∷ drop (suc at) l) ++ q ≡ p ++ front ++ (to z ++ (back ++ q)) =
      λ z. ap (λ (t : List ℕ). p ++ t ++ q) (octets-append to (take at l) (z ∷ drop (suc at) l)) ∙ simp append_assoc in
      let is : l ≡ take at l ++ x ∷ drop (suc at) l = split_at l at x h ∙ ap (λ (z : B). take at l ++ z ∷ drop (suc at) l) e in
      ap (λ (t : List B). within (a + at * w) w f (p ++ many_octets to t ++ q)) is
      ∙ ap (within (a + at * w) w f) (parts x)
      ∙ within-joined (p ++ front) (to x) (back ++ q) (to y) (a + at * w) w f (join p front a (at * w) lp lf) lx c
      ∙ sym (parts y)
      ∙ ap (λ (t : List B). p ++ many_octets to t ++ q) (sym (set_split l at y h))

-- ---- the cells

-- n cells: the images of a list's things, and free cells behind them
abbrev pub filled : {A B : Type 0} → (A → B) → B → ℕ → List A → List B
filled image free n l = map image l ++ replicate (n - length l) free

-- each of a list's things has an image of w octets
abbrev pub Images : {A B : Type 0} → (A → B) → (B → List ℕ) → ℕ → List A → Type 0
Images image to w l = Each (λ x. length (to (image x)) ≡ w) l

module _ {A B : Type 0} (image : A → B) (free : B) (to : B → List ℕ) (w : ℕ) (blank : to free ≡ zeros w) where
  free-long : length (to free) ≡ w
  free-long = ap length blank ∙ length-replicate w 0

  images-long : (l : List A) → Images image to w l → Long to w (map image l)
  images-long [] g = tt
  images-long (x ∷ l) g = (g.0, images-long l g.1)

  free-longs : (k : ℕ) → Long to w (replicate k free)
  free-longs zero = tt
  free-longs (suc k) = (free-long, free-longs k)

  cells-long : (n : ℕ) (l : List A) → Images image to w l → Long to w (filled image free n l)
  cells-long n l g = each_append (λ (z : B). length (to z) ≡ w) (map image l) (replicate (n - length l) free) (images-long l g) (free-longs (n - length l))

  cells_count : (n : ℕ) (l : List A) → length l ≤ n → length (filled image free n l) ≡ n
  cells_count n l h =
      let a : length (map image l) ≡ length l = length-map l image in
      let b : length (replicate (n - length l) free) ≡ n - length l = length-replicate (n - length l) free in
      length-append (map image l) (replicate (n - length l) free) ∙ omega arith

  -- n cells have n times w octets
  pub filled-long : (n : ℕ) (l : List A) → length l ≤ n → Images image to w l → length (many_octets to (filled image free n l)) ≡ w * n
  filled-long n l h g = long-octets to w (filled image free n l) (cells-long n l g) ∙ ap (λ (k : ℕ). w * k) (cells_count n l h)

  -- one put in
  pub filled-inserted : (n : ℕ) (l : List A) (at : ℕ) (x : A) → at ≤ length l → length l < n → Images image to w l
      → inserted_at w (length l) at (to (image x)) (many_octets to (filled image free n l)) ≡ many_octets to (filled image free n (take at l ++ x ∷ drop at l))
  filled-inserted n l at x h f g =
      let m : List B = map image l in
      let k : ℕ = n - (length l + 1) in
      let lm : length m ≡ length l = length-map l image in
      let e : n - length l ≡ suc k = omega arith in
      let ld : length (drop at l) ≡ length l - at = length-drop at l in
      let lt : length (take at l) ≡ at = length-take-le at l h in
      let la : length (take at l ++ x ∷ drop at l) ≡ length (take at l) + suc (length (drop at l)) = length-append (take at l) (x ∷ drop at l) in
      let c : n - length (take at l ++ x ∷ drop at l) ≡ k = omega arith in
      let d : map image (take at l ++ x ∷ drop at l) ≡ take at m ++ image x ∷ drop at m = map-append image (take at l) (x ∷ drop at l) ∙ λ i. map-take image at l i ++ image x ∷ map-drop image at l i in
      ap (λ (j : ℕ). inserted_at w j at (to (image x)) (many_octets to (filled image free n l))) (sym lm)
      ∙ ap (λ (j : ℕ). inserted_at w (length m) at (to (image x)) (many_octets to (m ++ replicate j free))) e
      ∙ octets-inserted to w m (replicate k free) at (image x) free (omega arith) (images-long l g) free-long
      ∙ ap (λ (r : List B). many_octets to (r ++ replicate k free)) (sym d)
      ∙ ap (λ (j : ℕ). many_octets to (map image (take at l ++ x ∷ drop at l) ++ replicate j free)) (sym c)

  -- one taken out
  pub filled-removed : (n : ℕ) (l : List A) (at : ℕ) → at < length l → length l ≤ n → Images image to w l
      → removed_at w (length l) at (many_octets to (filled image free n l)) ≡ many_octets to (filled image free n (take at l ++ drop (at + 1) l))
  filled-removed n l at h f g =
      let m : List B = map image l in
      let k : ℕ = n - length l in
      let lm : length m ≡ length l = length-map l image in
      let ld : length (drop (at + 1) l) ≡ length l - (at + 1) = length-drop (at + 1) l in
      let lt : length (take at l) ≡ at = length-take-le at l (omega arith) in
      let la : length (take at l ++ drop (at + 1) l) ≡ length (take at l) + length (drop (at + 1) l) = length-append (take at l) (drop (at + 1) l) in
      let c : n - length (take at l ++ drop (at + 1) l) ≡ suc k = omega arith in
      let d : map image (take at l ++ drop (at + 1) l) ≡ take at m ++ drop (at + 1) m = map-append image (take at l) (drop (at + 1) l) ∙ λ i. map-take image at l i ++ map-drop image (at + 1) l i in
      ap (λ (j : ℕ). removed_at w j at (many_octets to (filled image free n l))) (sym lm)
      ∙ octets-removed to w m (replicate k free) at free (omega arith) (images-long l g) blank
      ∙ ap (λ (r : List B). many_octets to (r ++ free ∷ replicate k free)) (sym d)
      ∙ ap (λ (j : ℕ). many_octets to (map image (take at l ++ drop (at + 1) l) ++ replicate j free)) (sym c)

  filled-set : (n : ℕ) (l : List A) (at : ℕ) (y : A) → at < length l → set (filled image free n l) at (image y) ≡ filled image free n (set l at y)
  filled-set n l at y h =
      let lm : length (map image l) ≡ length l = length-map l image in
      set-append_left (map image l) (replicate (n - length l) free) at (image y) (omega arith)
      ∙ λ i. map-set image l at y i ++ replicate (n - sym (length-set l at y) i) free

  -- one changed, in octets that stand between p and q
  pub filled-changed : (p q : List ℕ) (a n : ℕ) (l : List A) (at : ℕ) (x y : A) (f : List ℕ → List ℕ) → length p ≡ a → at < length l → get_or l at x ≡ x → Images image to w l → f (to (image x)) ≡ to (image y)
      → within (a + at * w) w f (p ++ many_octets to (filled image free n l) ++ q) ≡ p ++ many_octets to (filled image free n (set l at y)) ++ q
  filled-changed p q a n l at x y f lp h e g c =
      let lm : length (map image l) ≡ length l = length-map l image in
      let la : length (filled image free n l) ≡ length (map image l) + length (replicate (n - length l) free) = length-append (map image l) (replicate (n - length l) free) in
      let is : get_or (filled image free n l) at (image x) ≡ image x = get_or-append (map image l) (replicate (n - length l) free) (image x) at (omega arith) ∙ get_or-map image l at x ∙ ap image e in
      changed to w p q a (filled image free n l) at (image x) (image y) f lp (omega arith) is (cells-long n l g) c
      ∙ ap (λ (t : List B). p ++ many_octets to t ++ q) (filled-set n l at y h)
