-- The tests of a recipient taken together, and neighbours compared one after the other. Assumes nothing.
use Prim.Native.Nat.{ℕ, ◌+◌, ◌-◌, ◌<◌, ◌≤◌, Ordering}
use mathlib.Core.Path.{◌≡◌, refl, ap, ap₂, sym, subst, ◌∙◌}
use mathlib.Core.Bool.{Bool, true, false, false≢true, not, ◌&&◌, ◌||◌}
use mathlib.Core.List.{List, [], ◌∷◌, map}
use lib.ListN.{length, take, drop, get_or, length-take, length-drop}
use lib.Dec.{eqb}
use borrow.Author.Tests.{eqb-true, eqb-false}
use native.Mathlib.Omega.{arith}
use Rattle.header.specs.Table.{address}
use Rattle.header.specs.Rules.{◌⇒◌, all}
use Rattle.header.specs.declared.Requests.{Requests}
use Rattle.rules.proofs.Over.{used_step, Passed, passed_none, passed-more, passed-not, passed-all}
use Rattle.calls.specs.Order.{choose}
use Rattle.order.specs.Requests.{answered_by}
use Rattle.table.specs.WellFormed.{increasing, fits, unanswered, recipient_fine}
use Rattle.table.specs.declared.Recipient.{Recipient}

and-join : (e a b c d : Bool) → e && a && b && c && d ≡ e && (a && b && c) && d
and-join true a b c d = refl
and-join false a b c d = refl

-- the address, the codes, and what a 2 asks
pub recipient-parts : (a : Requests) (r : Recipient) → recipient_fine a r
    ≡ eqb (address.check r.address) 0
    && (fits a.machine (λ c. (answered_by c).machine) r.machine && fits a.acknowledge (λ c. (answered_by c).acknowledge) r.acknowledge && fits a.reply (λ c. (answered_by c).reply) r.reply)
    && ((eqb r.machine 2 || eqb r.acknowledge 2 || eqb r.reply 2)
    ⇒ not (unanswered a.machine r.machine || unanswered a.acknowledge r.acknowledge || unanswered a.reply r.reply))
unfolding recipient_fine
recipient-parts a r =
    and-join (eqb (address.check r.address) 0) (fits a.machine (λ c. (answered_by c).machine) r.machine)
    (fits a.acknowledge (λ c. (answered_by c).acknowledge) r.acknowledge) (fits a.reply (λ c. (answered_by c).reply) r.reply) _

-- the used cells up to i are in order
pub record Rising {A K : Type 0} (cmp : K → K → Ordering) (h : A → K) (n : ℕ) (l : List A) (i : ℕ) : Type 0 where
  pub within : i ≤ n
  pub same : increasing cmp (map h (take n l)) ≡ increasing cmp (map h (drop i (take n l)))

module _ {A K : Type 0} (cmp : K → K → Ordering) (h : A → K) (n : ℕ) (l : List A) where
  at_most_one : (m : List A) → length m ≤ 1 → increasing cmp (map h m) ≡ true
  unfolding increasing
  at_most_one [] q = refl
  at_most_one (x ∷ []) q = refl
  at_most_one (x ∷ y ∷ m) q = absurd (omega arith)

  pub rising_none : Rising cmp h n l 0
  rising_none = record { within = omega arith; same = refl }

  module _ (i : ℕ) (p : Rising cmp h n l i) (fits : n ≤ length l) where
    pub rising-all : n ≤ i + 1 → true ≡ increasing cmp (map h (take n l))
    rising-all e = sym (p.same ∙ at_most_one (drop i (take n l)) (rw (length-drop, length-take) (omega arith)))

    module _ (d : A) (k : i + 1 < n) where
      here : increasing cmp (map h (take n l))
          ≡ choose (cmp (h (get_or l i d)) (h (get_or l (i + 1) d))) true false false && increasing cmp (map h (drop (i + 1) (take n l)))
      unfolding increasing
      here =
          p.same
          ∙ ap (λ (m : List A). increasing cmp (map h m)) (used_step n l i d fits (omega arith))
          ∙ rw (used_step n l (i + 1) d fits k)

      pub rising-more : choose (cmp (h (get_or l i d)) (h (get_or l (i + 1) d))) true false false ≡ true → Rising cmp h n l (i + 1)
      rising-more e = record { within = omega arith; same = here ∙ rw e }

      pub rising-not : choose (cmp (h (get_or l i d)) (h (get_or l (i + 1) d))) true false false ≡ false → false ≡ increasing cmp (map h (take n l))
      rising-not e = sym (here ∙ rw e)

-- cells that have to pass a test and to be in order, in one loop that looks back: those before the i-th do
pub record Lined {A K : Type 0} (f : A → Bool) (cmp : K → K → Ordering) (h : A → K) (n : ℕ) (l : List A) (i : ℕ) : Type 0 where
  pub passed : Passed f n l i
  pub rising : Rising cmp h n l (i - 1)

and-false : (a b : Bool) → false ≡ b → false ≡ a && b
and-false true b e = e
and-false false b e = refl

module _ {A K : Type 0} (f : A → Bool) (cmp : K → K → Ordering) (h : A → K) (n : ℕ) (l : List A) where
  pub lined-none : Lined f cmp h n l 0
  lined-none = record { passed = passed_none f n l; rising = rising_none cmp h n l }

  module _ (i : ℕ) (p : Lined f cmp h n l i) (fits : n ≤ length l) where
    pub lined-all : n ≤ i → true ≡ all f (take n l) && increasing cmp (map h (take n l))
    lined-all e = rw (← (passed-all f n l i p.passed e)) (rising-all cmp h n l (i - 1) p.rising fits (omega arith))

    module _ (d : A) (k : i < n) where
      pub lined-bad : f (get_or l i d) ≡ false → false ≡ all f (take n l) && increasing cmp (map h (take n l))
      lined-bad e = rw (← (passed-not f n l i p.passed d fits k e))

      -- the i-th comes after the one before it, at j; the first has none before it
      module _ (j : ℕ) (e : j ≡ i - 1) where
        abbrev follows : Bool
        follows = eqb i 0 || choose (cmp (h (get_or l j d)) (h (get_or l i d))) true false false

        -- where it is not the first
        module _ (z : eqb i 0 ≡ false) where
          later : i ≡ i - 1 + 1
          later = omega (arith, eqb-false i 0 z)

          compared : (b : Bool) → follows ≡ b → choose (cmp (h (get_or l (i - 1) d)) (h (get_or l (i - 1 + 1) d))) true false false ≡ b
          compared b q =
              let r : choose (cmp (h (get_or l j d)) (h (get_or l i d))) true false false ≡ b = rw z at q in
              ap₂ (λ (x y : ℕ). choose (cmp (h (get_or l x d)) (h (get_or l y d))) true false false) (sym e) (sym later) ∙ r

        pub lined-more : f (get_or l i d) ≡ true → follows ≡ true → Lined f cmp h n l (i + 1)
        lined-more t q = record { passed = passed-more f n l i p.passed d fits k t; rising = go (eqb i 0) refl }
          where
            go : (b : Bool) → eqb i 0 ≡ b → Rising cmp h n l (i + 1 - 1)
            go true z = let x : i - 1 ≡ i + 1 - 1 = omega (arith, eqb-true i 0 z) in subst (Rising cmp h n l) x p.rising
            go false z =
                let y = later z in
                let x : i - 1 + 1 ≡ i + 1 - 1 = omega arith in
                subst (Rising cmp h n l) x (rising-more cmp h n l (i - 1) p.rising fits d (omega arith) (compared z true q))

        pub lined-off : follows ≡ false → false ≡ all f (take n l) && increasing cmp (map h (take n l))
        lined-off q = and-false (all f (take n l)) _ (go (eqb i 0) refl)
          where
            go : (b : Bool) → eqb i 0 ≡ b → false ≡ increasing cmp (map h (take n l))
            go true z = let r : true ≡ false = rw z at q in absurd (false≢true (sym r))
            go false z = let y = later z in rising-not cmp h n l (i - 1) p.rising fits d (omega arith) (compared z false q)
