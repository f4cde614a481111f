-- Two addresses, or two keys, are the same exactly where their comparison finds no difference. Assumes nothing.
use Prim.Native.Nat.Ordering.{eq}
use Prim.Native.Nat.Ordering.{gt}
use Prim.Native.Nat.Ordering.{lt}
use Prim.Native.Nat.{ℕ, compare, Ordering}
use mathlib.Core.Path.{◌≡◌, refl, ap₂, sym, ◌∙◌}
use mathlib.Core.Bool.{Bool, true, false, cond, ◌&&◌}
use mathlib.Core.List.{List, [], ◌∷◌}
use mathlib.Core.Option.{Option, none, some}
use lib.Dec.{eqb}
use Rattle.calls.specs.Order.{choose, then, by_number, list, option, ◌or◌}
use Rattle.order.specs.Values.{Address, urn, name, by_address, Key, by_key}
use Rattle.calls.proofs.Orders.{cases}
use Rattle.history.specs.Sheet.{same_list, same_address, same_extension, same_key}

abbrev pub alike : Ordering → Bool
alike o = choose o false true false

alike_then : (o p : Ordering) → alike (then o p) ≡ (alike o && alike p)
alike_then lt p = refl
alike_then eq p = refl
alike_then gt p = refl

number-alike : (x y : ℕ) → eqb x y ≡ alike (compare x y)
number-alike x y = cases (compare x y) (λ e. rw e) (λ e. rw e) (λ e. rw e)

list-alike : (s t : List ℕ) → same_list s t ≡ alike (list by_number s t)
unfolding same_list list
list-alike [] [] = refl
list-alike [] (y ∷ ys) = refl
list-alike (x ∷ xs) [] = refl
list-alike (x ∷ xs) (y ∷ ys) = ap₂ ◌&&◌ (number-alike x y) (list-alike xs ys) ∙ sym (alike_then (compare x y) (list by_number xs ys))

pub address-alike : (a b : Address) → same_address a b ≡ alike (by_address a b)
unfolding same_address by_address ◌or◌
address-alike (urn n) (urn m) = number-alike n m
address-alike (urn n) (name t) = refl
address-alike (name s) (urn m) = refl
address-alike (name s) (name t) = list-alike s t

extension-alike : (x y : Option ℕ) → same_extension x y ≡ alike (option by_number x y)
unfolding same_extension option
extension-alike none none = refl
extension-alike none (some y) = refl
extension-alike (some x) none = refl
extension-alike (some x) (some y) = number-alike x y

and_assoc : (a b c : Bool) → ((a && b) && c) ≡ (a && (b && c))
and_assoc true b c = refl
and_assoc false b c = refl

pub key-alike : (j k : Key) → same_key j k ≡ alike (by_key j k)
unfolding same_key by_key list
key-alike j k =
    sym
    (simp (alike_then, and_assoc)
    (rw (address-alike j.from k.from, number-alike j.year k.year, number-alike j.month k.month, number-alike j.day k.day, number-alike j.hour k.hour, number-alike j.minute k.minute, number-alike j.second k.second, extension-alike j.extension k.extension)))

-- a choice by sameness is a choice by comparison
pub alike-cond : {A : Type 0} (o : Ordering) (x y : A) → cond (alike o) x y ≡ choose o y x y
alike-cond lt x y = refl
alike-cond eq x y = refl
alike-cond gt x y = refl
