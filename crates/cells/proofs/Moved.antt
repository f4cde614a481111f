-- Things of w octets each: those of a beginning, of a copy put in, and of one replaced. Assumes nothing.
use Prim.Native.Nat.{ℕ, zero, suc, ◌+◌, ◌-◌, ◌*◌, ◌<◌, ◌≤◌}
use mathlib.Core.Path.{◌≡◌, refl, sym, ap, ◌∙◌}
use mathlib.Core.List.{List, [], ◌∷◌, ◌++◌}
use native.Mathlib.Nat.{suc-mul, add-mul}
use native.Mathlib.Omega.{arith}
use lib.ListN.{length, take, drop, set, length-drop}
use lib.Seq.{take-append-le, drop-append-le, take-take, drop-drop, length-take-le, take-nil, drop-nil, take_all, paste, length_paste_head, append_snoc, set_split}
use Rattle.cells.specs.Cells.{replaced, many}
use Rattle.cells.proofs.Replaced.{replaced-paste}
use Rattle.cells.proofs.Lists.{many-count}

-- w octets and n more, cut off behind them
cut : (w n : ℕ) (s : List ℕ) → drop w (take (w + n) s) ≡ take n (drop w s)
cut zero n s = let z : zero + n ≡ n = omega arith in rw z refl
cut (suc w) n [] = rw (take-nil {A = ℕ} (suc w + n), drop-nil {A = ℕ} (suc w), take-nil {A = ℕ} n)
cut (suc w) n (x ∷ s) = let z : suc w + n ≡ suc (w + n) = omega arith in rw z (cut w n s)

module _ {A : Type 0} (f : List ℕ → A) (w : ℕ) where
  pub many-joined : (a b : ℕ) (p q : List ℕ) → length p ≡ a * w → many f w (a + b) (p ++ q) ≡ many f w a p ++ many f w b q
  unfolding many
  many-joined zero b [] q h = let z : zero + b ≡ b = omega arith in rw z refl
  many-joined zero b (x ∷ p) q h = absurd (omega arith)
  many-joined (suc a) b p q h =
      let e : suc a * w ≡ a * w + w = suc-mul a w in
      let f : w ≤ length p = omega arith in
      let g : length (drop w p) ≡ a * w = simp length-drop (omega arith) in
      let z : suc a + b ≡ suc (a + b) = omega arith in
      rw (z, take-append-le w p q f, drop-append-le w p q f, many-joined a b (drop w p) q g)

  -- only their own octets count
  pub many-of-take : (n : ℕ) (s : List ℕ) → many f w n (take (n * w) s) ≡ many f w n s
  unfolding many
  many-of-take zero s = refl
  many-of-take (suc n) s =
      let e : suc n * w ≡ w + n * w = suc-mul n w ∙ omega arith in
      rw (e, take-take w (w + n * w) s (omega arith), cut w (n * w) s, many-of-take n (drop w s))

  pub take-many : (a b : ℕ) (s : List ℕ) → take a (many f w (a + b) s) ≡ many f w a s
  unfolding many
  take-many zero b s = refl
  take-many (suc a) b s = let z : suc a + b ≡ suc (a + b) = omega arith in rw z (ap (λ r. f (take w s) ∷ r) (take-many a b (drop w s)))

  pub drop-many : (a b : ℕ) (s : List ℕ) → drop a (many f w (a + b) s) ≡ many f w b (drop (a * w) s)
  unfolding many
  drop-many zero b s = let z : zero + b ≡ b = omega arith in let y : zero * w ≡ 0 = omega arith in rw (z, y) refl
  drop-many (suc a) b s =
      let e : suc a * w ≡ w + a * w = suc-mul a w ∙ omega arith in
      let z : suc a + b ≡ suc (a + b) = omega arith in
      rw z (drop-many a b (drop w s) ∙ rw (e, drop-drop (a * w) w s))

  -- those behind a place, as far as they go
  pub some-many : (n a b : ℕ) (s : List ℕ) → a + b ≤ n → many f w b (drop (a * w) s) ≡ take b (drop a (many f w n s))
  some-many n a b s h =
      let e : n ≡ a + (b + (n - a - b)) = omega arith in
      rw e (sym (ap (take b) (drop-many a (b + (n - a - b)) s) ∙ take-many b (n - a - b) (drop (a * w) s)))

  -- the octets of b of them copied in from the a-th on
  pub many-copied : (n a b : ℕ) (s z : List ℕ) → a + b ≤ n → n * w ≤ length s → b * w ≤ length z
      → many f w n (paste s (a * w) z (b * w)) ≡ take a (many f w n s) ++ many f w b z ++ drop (a + b) (many f w n s)
  many-copied n a b s z h g k =
      let c : ℕ = n - (a + b) in
      let e : n ≡ a + b + c = omega arith in
      let m : (a + b) * w ≡ a * w + b * w = add-mul a b w in
      let k2 : n * w ≡ (a + b) * w + c * w = ap (λ (x : ℕ). x * w) e ∙ add-mul (a + b) c w in
      let l : length (take (a * w) s ++ take (b * w) z) ≡ (a + b) * w = length_paste_head s (a * w) z (b * w) (omega arith) k ∙ sym m in
      let l2 : length (take (a * w) s) ≡ a * w = length-take-le (a * w) s (omega arith) in
      let front : many f w a s ≡ take a (many f w (a + b + c) s) = sym (ap (λ (x : ℕ). take a (many f w x s)) (omega arith) ∙ take-many a (b + c) s) in
      let back : many f w c (drop (a * w + b * w) s) ≡ drop (a + b) (many f w (a + b + c) s) = ap (λ (x : ℕ). many f w c (drop x s)) (sym m) ∙ sym (drop-many (a + b) c s) in
      rw e (many-joined (a + b) c (take (a * w) s ++ take (b * w) z) (drop (a * w + b * w) s) l
      ∙ ap (λ (x : List A). x ++ many f w c (drop (a * w + b * w) s)) (many-joined a b (take (a * w) s) (take (b * w) z) l2)
      ∙ rw (many-of-take a s, many-of-take b z, front, back))

  -- one of them replaced: the others stay
  pub many-replaced : (n i : ℕ) (s ys : List ℕ) → i < n → n * w ≤ length s → length ys ≡ w → many f w n (replaced (i * w) w s ys) ≡ set (many f w n s) i (f ys)
  unfolding many
  many-replaced n i s ys h g k =
      let o : 1 * w ≡ w = omega arith in
      let t : take w ys ≡ ys = take_all w ys (omega arith) in
      let p : paste s (i * w) ys (1 * w) ≡ paste s (i * w) ys w = ap (λ (x : ℕ). paste s (i * w) ys x) o in
      let q : i < length (many f w n s) = rw (many-count f w n s) h in
      let z : i + 1 ≡ suc i = omega arith in
      ap (many f w n) (replaced-paste (i * w) w s ys k ∙ sym p)
      ∙ many-copied n i 1 s ys (omega arith) g (omega arith)
      ∙ ap (λ (x : List ℕ). take i (many f w n s) ++ (f x ∷ []) ++ drop (i + 1) (many f w n s)) t
      ∙ append_snoc (take i (many f w n s)) (f ys) (drop (i + 1) (many f w n s))
      ∙ ap (λ (x : ℕ). take i (many f w n s) ++ f ys ∷ drop x (many f w n s)) z
      ∙ sym (set_split (many f w n s) i (f ys) q)
