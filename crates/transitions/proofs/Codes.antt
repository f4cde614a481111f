-- The ways of a recipient's three codes, and the cells that they stand in. Assumes nothing.
use Prim.Native.Nat.{ℕ, zero, suc, ◌<◌, ◌≤◌}
use mathlib.Core.Path.{◌≡◌, refl}
use mathlib.Core.Bool.{Bool, true, false, cond, ◌&&◌, ◌||◌}
use mathlib.Core.Option.{Option, none, some}
use lib.Dec.{T, eqb}
use borrow.Author.Tests.{ne_eqb}
use native.Mathlib.Omega.{arith}
use Rattle.header.specs.declared.Requests.{Requests}
use Rattle.order.specs.Requests.{answered_by, opens, open_to, write, settle, Fit, ask_of}
use Rattle.table.specs.Rows.{code_of}
use Rattle.table_octets.specs.Image.{code_image}
use Rattle.transitions.specs.Octets.{marks}

-- ---- one request

pub opens_is : (a b : Bool) (n : ℕ) → (a && b && eqb n 0) ≡ opens a b (code_of n)
unfolding opens code_of
opens_is a b n = go a b (eqb n 0)
  where
    go : (a b z : Bool) → (a && b && z) ≡ opens a b (cond z none (some n))
    go true true true = refl
    go true true false = refl
    go true false true = refl
    go true false false = refl
    go false b true = refl
    go false b false = refl

pub code-written : (b : Bool) (c n : ℕ) → b ≡ true → 0 < c → code_of c ≡ write b c (code_of n)
unfolding write code_of
code-written b c n e p = rw (e, ne_eqb c 0 (λ z. absurd (omega arith)))

pub code-kept : (b : Bool) (c n : ℕ) → b ≡ false → code_of n ≡ write b c (code_of n)
unfolding write
code-kept b c n e = rw e

-- ---- the three requests

-- m, k, r: what stood at each; y: what then stands there
pub settle_is : (a : Requests) (c m k r x y z : ℕ) (u v w f g h o : Bool)
    → u ≡ (answered_by c).machine → v ≡ (answered_by c).acknowledge → w ≡ (answered_by c).reply
    → f ≡ opens a.machine u (code_of m)
    → g ≡ opens a.acknowledge v (code_of k)
    → h ≡ opens a.reply w (code_of r)
    → o ≡ (f || g || h)
    → code_of x ≡ write f c (code_of m)
    → code_of y ≡ write g c (code_of k)
    → code_of z ≡ write h c (code_of r)
    → settle (ask_of a) c (marks m k r) ≡ cond o (some (marks x y z)) none
unfolding settle open_to ask_of marks
settle_is a c m k r x y z u v w f g h o i j l e d b n p q s = rw (p, q, s, n, e, d, b, i, j, l)

-- none of the three is open
pub settle_none : (a : Requests) (c m k r : ℕ) (u v w f g h : Bool)
    → u ≡ (answered_by c).machine → v ≡ (answered_by c).acknowledge → w ≡ (answered_by c).reply
    → f ≡ opens a.machine u (code_of m)
    → g ≡ opens a.acknowledge v (code_of k)
    → h ≡ opens a.reply w (code_of r)
    → (f || g || h) ≡ false
    → settle (ask_of a) c (marks m k r) ≡ none
unfolding settle open_to ask_of marks
settle_none a c m k r u v w f g h i j l e d b n = rw (← i, ← j, ← l, ← e, ← d, ← b, n)

-- ---- the cell of a code

pub code-cell : (n : ℕ) → code_image (code_of n) ≡ n
unfolding code_of
code-cell zero = refl
code-cell (suc n) = rw (ne_eqb (suc n) 0 (λ e. absurd (omega arith)))

-- a code that may stand at a request is one of 1 to 6, so that its cell holds it
small : (a b : Bool) → T (a && b) → b ≡ true
small true true t = refl
small true false t = absurd t
small false b t = absurd t

of_two : (p q : Bool) → p || q ≡ true → (p ≡ false → q ≡ true)
of_two true q e f = let z : ◌≡◌ {A = ℕ} 0 1 = cc in absurd (omega arith)
of_two false q e f = e

pub fit-cell : (a : Bool) (ans : ℕ → Bool) → ((c : ℕ) → ans c ≡ true → (1 ≤ c) × (c ≤ 6)) → (o : Option ℕ) → Fit a ans o → (code_image o < 4294967296) × (code_of (code_image o) ≡ o)
unfolding Fit code_of
fit-cell a ans h none f = (omega arith, refl)
fit-cell a ans h (some c) f =
    let p = h c (small a (ans c) f) in
    let l : 1 ≤ c = p.0 in
    let m : c ≤ 6 = p.1 in
    (omega arith, rw (ne_eqb c 0 (λ e. absurd (omega arith))))
