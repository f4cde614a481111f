-- A call that names no legal key is always refused and changes nothing: on any sheet, and on any table by the call's contract. Assumes nothing.
use Prim.Native.Nat.{ℕ, zero, suc}
use mathlib.Core.Path.{◌≡◌, refl, ap, sym, ◌∙◌}
use mathlib.Core.Bool.{Bool, true, false}
use mathlib.Core.List.{List}
use mathlib.Core.Logic.{inl, inr}
use mathlib.Core.Option.{none, some}
use native.Mathlib.Omega.{arith}
use Rattle.codec.specs.Verdict.{Verdict, in_block, plain}
use Rattle.calls.specs.Machine.{step}
use Rattle.calls.specs.Operations as operations
use Rattle.calls.specs.Operations.{key}
use Rattle.order.specs.Values.{key_fault}
use Rattle.order.specs.Calls.{Operation, Call, on_table}
use Rattle.order.specs.Sheet as theory
use Rattle.table.specs.WellFormed.{well_formed}
use Rattle.table_octets.specs.Table.{table_in}
use Rattle.arguments.specs.Arguments.{Arguments, posting, receiving, releasing, posting_fault, receipt_fault, named, call_of, message}
use Rattle.arguments.proofs.Names.{message-is}
use Rattle.transitions.specs.Transition.{Transition}
use Rattle.history.specs.Sheet.{Sheet, sheet}
use Rattle.history.proofs.SheetIs.{sheet-is}
use Rattle.history.proofs.Runs.{stays}

-- what the arguments refuse is refused with a number
named-refused : (f : Verdict) (d : Operation) (v : Verdict) → named f d ≡ inl v → v.number ≡ 0 → ⊥
named-refused f d v = go f.number f.block
  where
    go : (n b : ℕ) → named (in_block b n) d ≡ inl v → v.number ≡ 0 → ⊥
    go zero b e z = let o : ◌≡◌ {A = ℕ} 0 1 = cc in omega arith
    go (suc n) b e z = let o : in_block b (suc n) ≡ v = cc in omega (arith, ap (λ (u : Verdict). u.number) o, z)

call-refused : (x : Arguments) (v : Verdict) → call_of x ≡ inl v → v.number ≡ 0 → ⊥
unfolding call_of
call-refused (posting h m count) v e z = named-refused (posting_fault h m count) _ v e z
call-refused (receiving h m count) v e z = named-refused (receipt_fault h m count) _ v e z
call-refused (releasing k) v e z = named-refused (plain (key_fault k)) _ v e z

-- a call that names no legal key is refused by its arguments
pub record Refused (x : Arguments) : Type 0 where
  pub verdict : Verdict
  pub said : call_of x ≡ inl verdict
  pub positive : verdict.number ≡ 0 → ⊥

arguments-refuse : (x : Arguments) → message x ≡ none → Refused x
arguments-refuse x e = go (call_of x) refl
  where
    go : (c : Call) → call_of x ≡ c → Refused x
    go (inl n) q = record { verdict = n; said = q; positive = call-refused x n q }
    go (inr d) q = let p : some (key d) ≡ none = sym (message-is x d q) ∙ e in let o : ◌≡◌ {A = ℕ} 0 1 = cc in absurd (omega arith)

pub unnamed : (x : Arguments) → message x ≡ none → (s : Sheet) → ((sheet x s).0.number ≡ 0 → ⊥) × ((sheet x s).1 ≡ s)
unfolding theory.sheet operations.sheet
unnamed x e s = let r = arguments-refuse x e in rw (sheet-is x s, r.said) (r.positive, refl)

pub unnamed-call : (x : Arguments) → message x ≡ none → {t t' : List ℕ} {n : Verdict} → Transition (call_of x) t n t' → (n.number ≡ 0 → ⊥) × (t' ≡ t)
unfolding on_table operations.on_table step
unnamed-call x e {t} {t'} {n} d = (refused, stays (call_of x) t t' n d refused)
  where
    go : (b : Bool) → well_formed (table_in t) ≡ b → n.number ≡ 0 → ⊥
    go false w z = let a : n ≡ plain 30 = d.answer ∙ rw w in omega (arith, z, ap (λ (v : Verdict). v.number) a)
    go true w z =
        let r = arguments-refuse x e in
        let a : n ≡ r.verdict = d.answer ∙ rw (w, r.said) in
        r.positive (omega (arith, z, ap (λ (v : Verdict). v.number) a))

    refused : n.number ≡ 0 → ⊥
    refused = go (well_formed (table_in t)) refl
