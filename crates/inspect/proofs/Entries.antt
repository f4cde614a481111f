-- Things of w octets each that have to pass a test and to be in order, looked at from the left where they lie: the list that the octets hold. Assumes nothing.
use denote.Ref.{Bor}
use borrow.Author.Tests.{eq-eqb, ne_eqb}
use Rattle.std.specs.Prelude.{IfSome, MatchOption}
use Rattle.std.specs.declared.option.Option.{Option}
use Rattle.std.specs.declared.option.Option.TheVariants.{None, Some}
use Prim.Native.Nat.{ℕ, ◌+◌, ◌-◌, ◌*◌, ◌<◌, ◌≤◌, Ordering}
use mathlib.Core.Path.{◌≡◌, refl, ap, ap₂, sym, subst, ◌∙◌}
use mathlib.Core.Bool.{Bool, true, false, ◌&&◌, ◌||◌}
use mathlib.Core.List.{List, [], map}
use lib.ListN.{length, take, get_or}
use lib.Dec.{eqb}
use native.Mathlib.Omega.{arith}
use Rattle.header.specs.Rules.{all}
use Rattle.cells.specs.Cells.{part, many}
use Rattle.cells.proofs.Lists.{many-count, many-entry}
use Rattle.calls.specs.Order.{choose}
use Rattle.table.specs.WellFormed.{increasing}
use Rattle.table.specs.Search.{Position}
use Rattle.inspect.specs.Places.{further}
use Rattle.inspect.proofs.Tests.{Lined, lined-bad, lined-off, lined-more, lined-all}
use Rattle.inspect.proofs.Sought.{Sought, sought-more}

-- the one before the i-th of w octets each, as it was lent; none before the first
module _ (w : ℕ) (s : List ℕ) where
  abbrev pub Before : ℕ → Option (Bor (List ℕ)) → Type 0
  Before i last = MatchOption last (i ≡ 0) (λ y. (0 < i) × (length y.now ≡ w) × (y.now ≡ part ((i - 1) * w) w s))

  pub before-next : (i : ℕ) (y : Bor (List ℕ)) → y.now ≡ part (i * w) w s → length y.now ≡ w → Before (i + 1) (Some y)
  before-next i y e l = let j : i ≡ i + 1 - 1 = omega arith in (omega arith, l, e ∙ ap (λ (k : ℕ). part (k * w) w s) j)

  pub before-long : (i : ℕ) (last : Option (Bor (List ℕ))) → Before i last → IfSome last (λ y. length y.now ≡ w)
  before-long i None b = tt
  before-long i (Some y) b = b.1

module _ {A K : Type 0} (g : List ℕ → A) (w most : ℕ) (f : A → Bool) (cmp : K → K → Ordering) (h : A → K) (n : ℕ) (s : List ℕ) (few : n ≤ most) where
  abbrev there : List A
  there = many g w most s

  pub fits : n ≤ length there
  fits = let e : length there ≡ most = many-count g w most s in omega (arith, e, few)

  pub entries-all : (i : ℕ) → Lined f cmp h n there i → n ≤ i → true ≡ all f (take n there) && increasing cmp (map h (take n there))
  entries-all i p e = lined-all f cmp h n there i p fits e

  -- the i-th of them, as `entry` lends it
  module _ (i : ℕ) (k : i < n) (x : List ℕ) (here : x ≡ part (i * w) w s) where
    is : g x ≡ get_or there i (g [])
    is = many-entry g w most i s x (g []) here (omega (arith, k, few))

    pub entry_place : (key : K) (p : Position) → Sought cmp h key n there i p → (z : Position) → z ≡ further i (cmp key (h (g x))) p → Sought cmp h key n there (i + 1) z
    entry_place key p q z e = subst (Sought cmp h key n there (i + 1)) (sym e) (sought-more cmp h key n there fits i p q (g []) k _ (ap (λ (a : A). cmp key (h a)) (sym is)))

    module _ (p : Lined f cmp h n there i) where
      pub entry-bad : f (g x) ≡ false → false ≡ all f (take n there) && increasing cmp (map h (take n there))
      entry-bad e = lined-bad f cmp h n there i p fits (g []) k (ap f (sym is) ∙ e)

      -- and what was found of it and the one before it
      module _ (last : Option (Bor (List ℕ))) (before : Before w s i last) (r : Bool) (told : MatchOption last (r ≡ true) (λ y. r ≡ choose (cmp (h (g y.now)) (h (g x))) true false false)) where
        follows : (o : Option (Bor (List ℕ))) → Before w s i o → MatchOption o (r ≡ true) (λ y. r ≡ choose (cmp (h (g y.now)) (h (g x))) true false false)
            → (eqb i 0 || choose (cmp (h (get_or there (i - 1) (g []))) (h (get_or there i (g [])))) true false false) ≡ r
        follows None b t = rw (eq-eqb i 0 b) (sym t)
        follows (Some y) b t =
            rw (ne_eqb i 0 (λ z. let q : 0 < i = b.0 in absurd (omega arith)))
            (ap₂ (λ (u v : A). choose (cmp (h u) (h v)) true false false) (sym (many-entry g w most (i - 1) s y.now (g []) b.2 (omega (arith, k, few)))) (sym is) ∙ sym t)

        pub entry-off : r ≡ false → false ≡ all f (take n there) && increasing cmp (map h (take n there))
        entry-off q = lined-off f cmp h n there i p fits (g []) k (i - 1) refl (follows last before told ∙ q)

        pub entry_more : f (g x) ≡ true → r ≡ true → Lined f cmp h n there (i + 1)
        entry_more t q = lined-more f cmp h n there i p fits (g []) k (i - 1) refl (ap f (sym is) ∙ t) (follows last before told ∙ q)
