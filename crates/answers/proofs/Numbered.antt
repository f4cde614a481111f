-- A call's answer in numbers is the answer that the call promised. Assumes nothing.
use Prim.Native.Nat.{ℕ}
use mathlib.Core.Path.{◌≡◌, sym, subst, ◌∙◌}
use mathlib.Core.List.{List}
use Rattle.codec.specs.Verdict.{Verdict}
use Rattle.order.specs.Calls.{Call}
use Rattle.arguments.specs.Told.{Answer, answer_says, answer_place}
use Rattle.transitions.specs.Transition.{Transition}
use Rattle.answers.specs.Numbers.{table_says}
use Rattle.answers.specs.declared.TableAnswer.{TableAnswer}

pub numbered : {c : Call} {t t' : List ℕ} (a : Answer) (r : TableAnswer) → (table_says r ≡ answer_says a) × (r.place ≡ answer_place a) → Transition c t (answer_says a) t' × (answer_place a ≡ 0) → Transition c t (table_says r) t' × (r.place ≡ 0)
numbered {c = c} {t = t} {t' = t'} a r e p = (subst (λ (v : Verdict). Transition c t v t') (sym e.0) p.0, e.1 ∙ p.1)
