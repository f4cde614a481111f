-- The laws of a codec, and what holds of every codec that has them. Assumes nothing.
use Prim.Native.Nat.{ℕ, ◌+◌, ◌≤◌}
use mathlib.Core.Path.{◌≡◌, refl, ap, sym, ◌∙◌, subst⁻¹}
use mathlib.Core.Bool.{Bool}
use mathlib.Core.List.{List, [], ◌++◌}
use lib.ListN.{length, take, drop, length-append}
use lib.Seq.{drop-drop, drop-append_seam, take-append_seam, take_at}
use native.Mathlib.Omega.{arith}
use Rattle.codec.specs.Answer.{got, refused}
use Rattle.codec.specs.Codec.{Codec}

-- what is known of a value that was read from place p to place q: it may be written, its unused cells are 0, and it is written as the bits that
-- were read
pub record Accepted {A : Type 0} (c : Codec A) (bs : List Bool) (p q : ℕ) (x : A) : Type 0 where
  pub legal : c.check x ≡ 0
  pub clean : c.norm x ≡ x
  pub same : drop p bs ≡ c.write x ++ drop q bs
  pub ends : q ≡ p + length (c.write x)

-- A value that may be written is read back, its unused cells 0, wherever its bits stand; what is read may be written and gives the bits that were
-- read; the check does not look at unused cells; and the size is the number of bits.
pub record Lawful {A : Type 0} (c : Codec A) : Type 0 where
  pub written : (bs rest : List Bool) (p : ℕ) (x : A) → c.check x ≡ 0 → drop p bs ≡ c.write x ++ rest → c.read bs p ≡ got (c.norm x) (p + length (c.write x))
  pub accepted : (bs : List Bool) (p q : ℕ) (x : A) → c.read bs p ≡ got x q → Accepted c bs p q x
  pub judged : (x : A) → c.check (c.norm x) ≡ c.check x
  pub sized : (x : A) → length (c.write x) ≡ c.size x

-- behind what stands at p
pub behind : (bs w rest : List Bool) (p : ℕ) → drop p bs ≡ w ++ rest → drop (p + length w) bs ≡ rest
behind bs w rest p e = rw (← (drop-drop (length w) p bs), e) (drop-append_seam w rest)

-- an answer is no refusal and a value at once
pub never : {A : Type 0} {f p q : ℕ} {x : A} → refused f p ≡ got x q → ⊥
never {f = f} {p = p} {q = q} {x = x} e = let z : ◌≡◌ {A = ℕ} 0 1 = cc in omega arith

module _ {A : Type 0} {c : Codec A} (lc : Lawful c) where
  -- a value that may be written is read back, its unused cells 0, whatever follows
  pub read-back : (x : A) (rest : List Bool) → c.check x ≡ 0 → c.read (c.write x ++ rest) 0 ≡ got (c.norm x) (length (c.write x))
  read-back x rest l = lc.written (c.write x ++ rest) rest 0 x l refl ∙ ap (got (c.norm x)) (omega arith)

  -- what was read is written as the bits that were read
  pub written_back : (bs : List Bool) (q : ℕ) (x : A) → c.read bs 0 ≡ got x q → (c.check x ≡ 0) × (c.write x ≡ take q bs)
  written_back bs q x e =
      let k = lc.accepted bs 0 q x e in
      (k.legal, sym (rw k.ends (subst⁻¹ (λ (l : List Bool). take (0 + length (c.write x)) l ≡ c.write x) k.same (take_at (c.write x) (drop q bs) (0 + length (c.write x)) (omega arith)))))

  -- a reading from the first bit on ends within the bits
  pub read-within : (bs : List Bool) (q : ℕ) (x : A) → c.read bs 0 ≡ got x q → q ≤ length bs
  read-within bs q x e = let k = lc.accepted bs 0 q x e in omega (arith, k.ends, simp length-append at (ap length k.same))

  -- no value's bits begin another's: where they do, the two values are the same but for their unused cells
  pub prefix-free : (x y : A) (r t : List Bool) → c.check x ≡ 0 → c.check y ≡ 0 → c.write x ++ r ≡ c.write y ++ t → (c.write x ≡ c.write y) × (c.norm x ≡ c.norm y)
  prefix-free x y r t lx ly e =
      let a = read-back x r lx in
      let b = read-back y t ly in
      let m : length (c.write x) ≡ length (c.write y) = cc in
      let n : c.norm x ≡ c.norm y = cc in
      (sym (take_at (c.write x) r (length (c.write y)) m) ∙ ap (take (length (c.write y))) e ∙ take-append_seam (c.write y) t, n)

  -- a value and the same with its unused cells 0 are written alike
  pub norm-written : (x : A) → c.check x ≡ 0 → c.write (c.norm x) ≡ c.write x
  norm-written x l =
      let a = written_back (c.write x ++ []) (length (c.write x)) (c.norm x) (read-back x [] l) in
      a.1 ∙ take-append_seam (c.write x) []

  -- values that differ in their unused cells alone get the same check and the same bits
  pub same_check : (x y : A) → c.norm x ≡ c.norm y → c.check x ≡ c.check y
  same_check x y e = sym (lc.judged x) ∙ ap c.check e ∙ lc.judged y

  pub same_bits : (x y : A) → c.check x ≡ 0 → c.norm x ≡ c.norm y → c.write x ≡ c.write y
  same_bits x y l e = sym (norm-written x l) ∙ ap c.write e ∙ norm-written y (sym (same_check x y e) ∙ l)
