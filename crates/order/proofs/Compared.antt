-- The comparisons of std, as crate `calls` has them. Assumes nothing.
use Prim.Native.Nat.{ℕ, ◌<◌, Ordering}
use mathlib.Core.Path.{◌≡◌, refl, ap, sym, ◌∙◌}
use mathlib.Core.Bool.{Bool, true, false}
use mathlib.Core.List.{List, [], ◌∷◌}
use Rattle.std.specs.declared.cmp.Ordering.{Ordering as RustOrdering}
use Rattle.std.specs.declared.cmp.Ordering.TheVariants.{Less, Equal, Greater}
use Rattle.std.specs.Ordering.{nat_cmp, ordering_then, MatchOrdering, is_lt}
use Rattle.std.specs.Cmp.{ranks}
use Rattle.std.specs.Cmp.Lexicographic.{slice_cmp}
use Rattle.std.specs.Option.{option_cmp}
use Rattle.std.specs.Bool.{then_some}
use Rattle.calls.specs.Order.{choose, then, by_number, list, option}
use Rattle.calls.proofs.Orders.{lt→compare, gt→compare, eq→compare}
use Rattle.order.specs.Values.{comparison_of, option_of}

ranked : (x y : ℕ) (r : RustOrdering) → MatchOrdering r (x < y) (x ≡ y) (y < x) → comparison_of r ≡ by_number x y
unfolding comparison_of
ranked x y Less h = sym (lt→compare x y h)
ranked x y Equal h = sym (eq→compare x y h)
ranked x y Greater h = sym (gt→compare x y h)

pub numbers : (x y : ℕ) → comparison_of (nat_cmp x y) ≡ by_number x y
numbers x y = ranked x y (nat_cmp x y) (ranks x y)

pub then-is : (o p : RustOrdering) → comparison_of (ordering_then o p) ≡ then (comparison_of o) (comparison_of p)
unfolding comparison_of
then-is Less p = refl
then-is Equal p = refl
then-is Greater p = refl

pub lists : (xs ys : List ℕ) → comparison_of (slice_cmp nat_cmp xs ys) ≡ list by_number xs ys
unfolding comparison_of list
lists [] [] = refl
lists [] (y ∷ ys) = refl
lists (x ∷ xs) [] = refl
lists (x ∷ xs) (y ∷ ys) = then-is (nat_cmp x y) (slice_cmp nat_cmp xs ys) ∙ (λ i. then (numbers x y i) (lists xs ys i))

pub options : (a b : Bool) (x y : ℕ) → comparison_of (option_cmp nat_cmp (then_some a x) (then_some b y)) ≡ option by_number (option_of (record { present = a; value = x })) (option_of (record { present = b; value = y }))
unfolding comparison_of option option_of
options true true x y = numbers x y
options true false x y = refl
options false true x y = refl
options false false x y = refl

-- the second comparison only where the first says "the same"
pub then-with : (o r : RustOrdering) (q : Ordering) (P : Type 0) → MatchOrdering o (r ≡ Less) P (r ≡ Greater) → (P → comparison_of r ≡ q) → comparison_of r ≡ then (comparison_of o) q
unfolding comparison_of
then-with Less r q P m h = ap comparison_of m
then-with Equal r q P m h = h m
then-with Greater r q P m h = ap comparison_of m

pub less-is : (o : RustOrdering) → is_lt o ≡ choose (comparison_of o) true false false
unfolding comparison_of
less-is Less = refl
less-is Equal = refl
less-is Greater = refl
