-- Two calls that may change places, by their arguments, are apart in the theory of the calls; and a call uses no more lines than its arguments say. Assumes nothing.
use Prim.Native.Nat.{ℕ, zero, suc, ◌≤◌}
use mathlib.Core.Path.{◌≡◌, refl, ap, ◌∙◌}
use mathlib.Core.Logic.{inl, inr}
use mathlib.Core.Option.{some}
use native.Mathlib.Omega.{arith}
use Rattle.codec.specs.Verdict.{Verdict, in_block, plain}
use Rattle.header.specs.declared.Header.{Header}
use Rattle.order.specs.Values.{Address, Key, key_of, key_fault}
use Rattle.calls.specs.Operations.{receipt, release, key, refused_first, refused_second, messages, answerers}
use Rattle.order.specs.Calls.{Operation, Call, Apart, lines_for}
use Rattle.order.proofs.Orders.{by-key}
use Rattle.calls.proofs.Keyed.{sorted, same_or_not}
use Rattle.arguments.specs.Arguments.{Arguments, posting, receiving, releasing, posting_fault, receipt_fault, named, call_of, answerer}
use Rattle.arguments.proofs.Names.{message-is, answerer-is}
use Rattle.history.specs.History.{MayChange, other_message, other_answerer, line_for}

by-message : (c d : Call) → ((a b : Operation) → c ≡ inr a → d ≡ inr b → key a ≡ key b → ⊥) → Apart c d
by-message (inl n) d h = refused_first
by-message (inr a) (inl n) h = refused_second
by-message (inr a) (inr b) h = messages (h a b refl refl)

-- two receipts, as named
by-answerer : (f g : Verdict) (j k : Key) (v w : Address) (c d : ℕ) → (named f (receipt j (v, c)) ≡ inr (receipt j (v, c)) → named g (receipt k (w, d)) ≡ inr (receipt k (w, d)) → v ≡ w → ⊥) → Apart (named f (receipt j (v, c))) (named g (receipt k (w, d)))
by-answerer f g j k v w c d = go f.number f.block g.number g.block
  where
    go : (m a n b : ℕ) → (named (in_block a m) (receipt j (v, c)) ≡ inr (receipt j (v, c)) → named (in_block b n) (receipt k (w, d)) ≡ inr (receipt k (w, d)) → v ≡ w → ⊥) → Apart (named (in_block a m) (receipt j (v, c))) (named (in_block b n) (receipt k (w, d)))
    go (suc m) a n b h = refused_first
    go zero a (suc n) b h = refused_second
    go zero a zero b h = same_or_not (sorted by-key) j k (λ p. rw p (answerers (h refl refl))) messages

receipts-apart : (g h : Header) (m n c d : ℕ) → ((w : Address) → answerer g ≡ some w → answerer h ≡ some w → ⊥) → Apart (call_of (receiving g m c)) (call_of (receiving h n d))
unfolding call_of
receipts-apart g h m n c d far =
    by-answerer (receipt_fault g m c) (receipt_fault h n d) _ _ _ _ _ _ (λ p q z. far _ (answerer-is g m c _ _ _ p ∙ ap some z) (answerer-is h n d _ _ _ q))

pub apart : (x y : Arguments) → MayChange x y → Apart (call_of x) (call_of y)
apart x y (other_message h) = by-message (call_of x) (call_of y) (λ a b e f g. h (key b) (message-is x a e ∙ ap some g) (message-is y b f))
apart x y (other_answerer {g = g} {h = h} {m = m} {n = n} {c = c} {d = d} far) = receipts-apart g h m n c d far

named-lines : (f : Verdict) (d : Operation) (n : ℕ) → lines_for (inr d) ≤ n → lines_for (named f d) ≤ n
named-lines f d n l = go f.number f.block
  where
    go : (m b : ℕ) → lines_for (named (in_block b m) d) ≤ n
    go zero b = l
    go (suc m) b = omega arith

pub lines-within : (x : Arguments) → lines_for (call_of x) ≤ line_for x
unfolding call_of
lines-within (posting h n count) = named-lines (posting_fault h n count) _ 1 (omega arith)
lines-within (receiving h n count) = named-lines (receipt_fault h n count) _ 0 (omega arith)
lines-within (releasing k) = named-lines (plain (key_fault k)) (release (key_of k)) 0 (omega arith)
