-- The premise of the change of places, a free line for each posting of the two, leaves each posting's gate as it is. Assumes nothing but the laws of the rules.
use mathlib.Core.Path.{◌≡◌, sym, ◌∙◌}
use mathlib.Core.Logic.{◌⊎◌, inl, inr}
use mathlib.Core.Option.{Option, none, some}
use Prim.Native.Nat.{ℕ, suc, ◌+◌, ◌≤◌}
use native.Mathlib.Omega.{arith}
use lib.ListN.{length}
use Rattle.calls.specs.Keyed.{find, InOrder}
use Rattle.calls.specs.Machine.{step}
use Rattle.calls.specs.Operations.{Operation, post, receipt, release, key, Rules, State, Call, entered, patched, act, on_table, lines_for, Steady}
use Rattle.calls.proofs.Keyed.{sorted, held, length-put}
use Rattle.calls.proofs.Operations.{Lawful}

module _ {K W P A L : Type 0} (R : Rules K W P A L) (Z : Lawful R) where
  entered-grows : (r : W) (o : Option W) (g : Option A) → held (entered R r o g).2 ≤ held o + 1
  entered-grows r (some o) g = omega arith
  entered-grows r none (some a) = omega arith
  entered-grows r none none = omega arith

  patched-grows : (r : W) (x : A ⊎ (L × W)) → held (patched R r x).2 ≤ 1
  patched-grows r (inl a) = omega arith
  patched-grows r (inr n) = omega arith

  act-grows : (d : Operation K W P) (n : ℕ) (t : L) (o : Option W) → held (act R d n t o).2 ≤ held o + lines_for R (inr d)
  act-grows (post k r) n t o = entered-grows r o (R.gate r n t)
  act-grows (receipt k p) n t none = omega arith
  act-grows (receipt k p) n t (some r) = patched-grows r (R.patch p r)
  act-grows (release k) n t none = omega arith
  act-grows (release k) n t (some r) = omega arith

  -- a call takes no more lines than it may use
  pub grows : (c : Call R) (s : State R) → InOrder R.cmp s.0 → length (on_table R c s).1.0 ≤ length s.0 + lines_for R c
  unfolding on_table step
  grows (inl a) s u = omega arith
  grows (inr d) s u =
      let o : Option W = find R.cmp (key d) s.0 in
      omega (arith, length-put (sorted Z.order) (key d) (act R d (length s.0) s.1 o).2 s.0 u, act-grows d (length s.0) s.1 o)

-- rules that count nothing and let a row in below `most`
module _ {K W P A : Type 0} (R : Rules K W P A (Unit {0})) (Z : Lawful R) (most : ℕ) (free : (r : W) (n : ℕ) → suc n ≤ most → R.gate r n tt ≡ none) where
  pub lines-steady : (a b : Call R) (s : State R) → InOrder R.cmp s.0 → lines_for R a + lines_for R b + length s.0 ≤ most → Steady R a b s
  lines-steady (inl n) b s u l = tt
  lines-steady (inr (post k r)) b s u l = free r _ (omega (arith, grows R Z b s u, l)) ∙ sym (free r _ (omega (arith, l)))
  lines-steady (inr (receipt k p)) b s u l = tt
  lines-steady (inr (release k)) b s u l = tt
