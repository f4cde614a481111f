-- A release gives 30, an illegal key's 3, 4 or 6, or 26, and no block, on any table, by its contract. Assumes nothing.
use Prim.Native.Nat.{ℕ, zero, suc}
use mathlib.Core.Path.{refl, sym, subst}
use mathlib.Core.Bool.{Bool, true, false}
use mathlib.Core.List.{List, [], ◌∷◌, map}
use mathlib.Core.Logic.{inl, inr}
use mathlib.Core.Option.{Option, none, some}
use Rattle.codec.specs.Answer.{pick}
use Rattle.codec.specs.Verdict.{Verdict, plain}
use Rattle.calls.specs.Keyed.{find}
use Rattle.calls.specs.Machine.{step}
use Rattle.calls.specs.Operations as operations
use Rattle.calls.specs.Operations.{release}
use Rattle.order.specs.Values.{Key, key_of, by_key, key_fault}
use Rattle.order.specs.Calls.{Row, Rows, rules, on_table}
use Rattle.order.specs.declared.Key.{Key as DeclaredKey}
use Rattle.table.specs.Rows.{see}
use Rattle.table.specs.WellFormed.{well_formed}
use Rattle.table_octets.specs.Table.{table_in}
use Rattle.arguments.specs.Arguments.{releasing, named, call_of}
use Rattle.transitions.specs.Transition.{Transition}
use Rattle.history.specs.Demand3.{OneOf}
use Rattle.history.proofs.Faults.{key-gives}

abbrev Given : Verdict → Type 0
Given = OneOf (map plain (0 ∷ 30 ∷ 3 ∷ 4 ∷ 6 ∷ 26 ∷ []))

done : Given (plain 0)
done = inl refl

ill-formed : Given (plain 30)
ill-formed = inr (inl refl)

missing : Given (plain 26)
missing = inr (inr (inr (inr (inr (inl refl)))))

key-given : (k : DeclaredKey) → Given (plain (key_fault k))
key-given = key-gives (λ n. Given (plain n)) done (inr (inr (inl refl))) (inr (inr (inr (inl refl)))) (inr (inr (inr (inr (inl refl)))))

released-given : (o : Option Row) → Given (operations.released rules o).0
released-given none = missing
released-given (some r) = done

named-given : (f : ℕ) (k : Key) (s : Rows) → Given (plain f) → Given (on_table (named (plain f) (release k)) s).0
unfolding on_table operations.on_table step
named-given zero k s g = released-given (find by_key k s)
named-given (suc f) k s g = g

answer-given : (b : Bool) (v : Verdict) → Given v → Given (pick b v (plain 30))
answer-given true v g = g
answer-given false v g = ill-formed

pub releases : (k : DeclaredKey) {t t' : List ℕ} {v : Verdict} → Transition (call_of (releasing k)) t v t' → Given v
unfolding call_of
releases k {t} d = subst Given (sym d.answer) (answer-given (well_formed (table_in t)) _ (named-given (key_fault k) (key_of k) (see (table_in t)) (key-given k)))
