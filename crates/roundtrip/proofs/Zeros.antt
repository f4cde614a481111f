-- Bits that are 0 are read as fill, and what is read as fill is 0. Assumes nothing.
use Prim.Native.Nat.{ℕ, zero, suc, ◌+◌}
use mathlib.Core.Path.{◌≡◌, refl, ap, ◌∙◌}
use mathlib.Core.Bool.{Bool, true, false}
use mathlib.Core.List.{List, [], ◌∷◌, ◌++◌}
use lib.ListN.{drop, replicate}
use lib.Dec.{lit<}
use native.Mathlib.Omega.{arith}
use Rattle.codec.specs.Answer.{Answer, got, refused, next}
use Rattle.codec.specs.Codec.{must, tested, flag, first}
use Rattle.codec.proofs.Lawful.{Accepted, behind, never}
use Rattle.codec.proofs.Views.{must-lawful}
use Rattle.reader.specs.Reading.{read_fill}

zero-read : (bs rest : List Bool) (p : ℕ) → drop p bs ≡ false ∷ rest → (must false 9).read bs p ≡ got false (p + 1)
unfolding tested flag first
zero-read bs rest p e = (must-lawful false 9 (lit< tt)).written bs rest p false refl e

pub fill-read : (n : ℕ) (bs rest : List Bool) (p : ℕ) → drop p bs ≡ replicate n false ++ rest → read_fill n bs p ≡ got false (p + n)
unfolding read_fill next
fill-read zero bs rest p e = ap (got false) (omega arith)
fill-read (suc n) bs rest p e =
    rw (zero-read bs (replicate n false ++ rest) p e)
    (fill-read n bs rest (p + 1) (behind bs (false ∷ []) (replicate n false ++ rest) p e) ∙ ap (got false) (omega arith))

-- a bit that has to be 0 and was read is 0
zero-here : (bs : List Bool) (p q : ℕ) (b : Bool) → (must false 9).read bs p ≡ got b q → (drop p bs ≡ false ∷ drop q bs) × (q ≡ p + 1)
unfolding tested flag first
zero-here bs p q b e = go b ((must-lawful false 9 (lit< tt)).accepted bs p q b e)
  where
    go : (x : Bool) → Accepted (must false 9) bs p q x → (drop p bs ≡ false ∷ drop q bs) × (q ≡ p + 1)
    go true a = absurd (omega (arith, a.legal))
    go false a = (a.same, a.ends)

pub fill-zero : (n : ℕ) (bs : List Bool) (p q : ℕ) (b : Bool) → read_fill n bs p ≡ got b q → drop p bs ≡ replicate n false ++ drop (p + n) bs
unfolding read_fill next
fill-zero zero bs p q b e = let k : p ≡ p + 0 = omega arith in ap (λ (j : ℕ). drop j bs) k
fill-zero (suc n) bs p q b e = go ((must false 9).read bs p) refl e (λ r d. fill-zero n bs r q b d)
  where
    go : (a : Answer Bool) → (must false 9).read bs p ≡ a → next a (λ c r. read_fill n bs r) ≡ got b q → ((r : ℕ) → read_fill n bs r ≡ got b q → drop r bs ≡ replicate n false ++ drop (r + n) bs) → drop p bs ≡ false ∷ (replicate n false ++ drop (p + suc n) bs)
    go (refused f r) m d ih = absurd (never d)
    go (got c r) m d ih =
        let z = zero-here bs p r c m in
        let k : r + n ≡ p + suc n = omega (arith, z.1) in
        z.0 ∙ ap (λ (l : List Bool). false ∷ l) (ih r d ∙ ap (λ (j : ℕ). replicate n false ++ drop j bs) k)
