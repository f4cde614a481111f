-- A list with recurrence bits that is read entry by entry into the cells of an array, and written from them, for any entry. Assumes nothing.
use Prim.Native.Nat.{ℕ, zero, suc, ◌+◌, ◌-◌, ◌<◌, ◌≤◌}
use mathlib.Core.Path.{◌≡◌, refl, ap, sym, ◌∙◌}
use mathlib.Core.Bool.{Bool, true, false}
use mathlib.Core.List.{List, [], ◌∷◌, ◌++◌, append_assoc}
use lib.ListN.{length, take, drop, get_or, set, replicate, drop_of_length-le}
use lib.Seq.{take-suc-set, length-take-le, drop-cons}
use lib.Dec.{lit<}
use native.Mathlib.Numerals.{add-one}
use native.Mathlib.Omega.{arith}
use Rattle.codec.specs.Answer.{next}
use Rattle.codec.specs.Codec.{Codec, first, flag, tested, nothing, present, viewed, ◌then_by◌, ◌&◌}
use Rattle.codec.specs.Lists.{recurs, listed, cells}
use Rattle.codec.specs.Writes.{Writes}
use Rattle.codec.specs.declared.FieldFault.{FieldFault}
use Rattle.codec.proofs.Lawful.{Lawful}
use Rattle.codec.proofs.Sequences.{and-lawful}
use Rattle.codec.proofs.Views.{must-lawful}
use Rattle.codec.proofs.Cells.{Filled, filled_none, filled_more, filled-all}
use Rattle.codec.proofs.Compose.{Gets, Stops, then-writes, nothing-writes, shape-writes}

module _ {A : Type 0} (z : A) (c : Codec A) (bs : List Bool) where
  entry_more : (n p q r : ℕ) (y : A) (ys : List A) → Gets (recurs (suc n) & c) bs p (true, y) q → Gets (listed z c n) bs q ys r → Gets (listed z c (suc n)) bs p (y ∷ ys) r
  unfolding listed next viewed ◌then_by◌ present
  entry_more n p q r y ys g h = record { read = rw (← g.read, ← h.read) }

  entry-more-stop : (n p q : ℕ) (y : A) (f : FieldFault) → Gets (recurs (suc n) & c) bs p (true, y) q → Stops (listed z c n) bs q f → Stops (listed z c (suc n)) bs p f
  unfolding listed next viewed ◌then_by◌ present
  entry-more-stop n p q y f g s = record { read = rw (← g.read, ← s.read) }

  entry-last : (n p q : ℕ) (y : A) → Gets (recurs n & c) bs p (false, y) q → Gets (listed z c n) bs p (y ∷ []) q
  unfolding listed next viewed ◌then_by◌ present nothing
  entry-last zero p q y g = record { read = rw (← g.read) }
  entry-last (suc n) p q y g = record { read = rw (← g.read) }

  entry-stop : (n p : ℕ) (f : FieldFault) → Stops (recurs n & c) bs p f → Stops (listed z c n) bs p f
  unfolding listed next viewed ◌then_by◌
  entry-stop zero p f s = record { read = rw (← s.read) }
  entry-stop (suc n) p f s = record { read = rw (← s.read) }

  -- at the last place the recurrence bit is 0
  last_bit : Lawful c → (p q : ℕ) (y : A) → Gets (recurs 0 & c) bs p (true, y) q → ⊥
  unfolding recurs ◌then_by◌ tested flag first
  last_bit lc p q y g = omega (arith, ((and-lawful (must-lawful false 5 (lit< tt)) lc).accepted bs p q (true, y) (sym g.read)).legal)

  -- n entries are read, and q is the place of the next
  pub record Listing (room left p : ℕ) (xs : List A) (n q : ℕ) : Type 0 where
    pub small : n ≤ left
    pub filled : Filled z room xs n
    pub rest : (ys : List A) (r : ℕ) → Gets (listed z c (left - n)) bs q ys r → Gets (listed z c left) bs p (take n xs ++ ys) r
    pub stop : (f : FieldFault) → Stops (listed z c (left - n)) bs q f → Stops (listed z c left) bs p f

  pub listing_none : (room left p : ℕ) → Listing room left p (replicate room z) 0 p
  listing_none room left p =
      let k : left - 0 ≡ left = omega arith in
      record { small = omega arith; filled = filled_none z room; rest = λ ys r g. rw k at g; stop = λ f s. rw k at s }

  module _ (lc : Lawful c) (room left p : ℕ) (xs : List A) (n q : ℕ) (l : Listing room left p xs n q) (h : left < room) (y : A) where
    grown : take (n + 1) (set xs n y) ≡ take n xs ++ (y ∷ [])
    grown = rw add-one (take-suc-set xs n y (omega (arith, l.small, l.filled.len)))

    others : (t m : ℕ) → left - n ≡ m → Gets (recurs m & c) bs q (true, y) t → 0 < m
    others t zero em e = absurd (last_bit lc q t y e)
    others t (suc m) em e = omega arith

    pub listing-more : (t : ℕ) → Gets (recurs (left - n) & c) bs q (true, y) t → Listing room left p (set xs n y) (n + 1) t
    listing-more t e =
        let o : 0 < left - n = others t (left - n) refl e in
        let k : left - n ≡ suc (left - (n + 1)) = omega arith in
        let f : Gets (recurs (suc (left - (n + 1))) & c) bs q (true, y) t = rw k at e in
        record {
          small = omega arith;
          filled = filled_more z room xs n y (omega (arith, l.small)) l.filled;
          rest = λ ys r g. rw (grown, append_assoc) (l.rest (y ∷ ys) r (rw k (entry_more (left - (n + 1)) q t r y ys f g)));
          stop = λ w s. l.stop w (rw k (entry-more-stop (left - (n + 1)) q t y w f s));
        }

    pub listing-end : (most fault t : ℕ) → Gets (recurs (left - n) & c) bs q (false, y) t → Gets (cells z room most fault (listed z c left)) bs p (set xs n y, n + 1) t
    unfolding cells viewed next
    listing-end most fault t e =
        let f = filled_more z room xs n y (omega (arith, l.small)) l.filled in
        let a = filled-all z room (set xs n y) (n + 1) (omega (arith, l.small)) f in
        let m : length (take (n + 1) (set xs n y)) ≡ n + 1 = length-take-le (n + 1) (set xs n y) (omega (arith, f.len, l.small)) in
        let g : Gets (listed z c left) bs p (take (n + 1) (set xs n y)) t = rw grown (l.rest (y ∷ []) t (entry-last (left - n) q t y e)) in
        record { read = rw (← g.read, a, m) }

  pub listing-stop : (room most fault left p : ℕ) (xs : List A) (n q : ℕ) (l : Listing room left p xs n q) (f : FieldFault) → Stops (recurs (left - n) & c) bs q f → Stops (cells z room most fault (listed z c left)) bs p f
  unfolding cells viewed next
  listing-stop room most fault left p xs n q l f s =
      let u = l.stop f (entry-stop (left - n) q f s) in
      record { read = rw (← u.read) }

-- writing
module _ {A : Type 0} (z : A) (c : Codec A) where
  last-writes : (n : ℕ) (y : A) (s t : List ℕ) (p q : ℕ) → Writes (flag & c) (false, y) s t p q → Writes (listed z c n) (y ∷ []) s t p q
  unfolding listed viewed ◌then_by◌ present nothing recurs tested flag
  last-writes zero y s t p q e = let w = then-writes (flag & c) (λ i. nothing {A = List A} []) ((false, y), []) s t t p q q e (nothing-writes [] [] t q) in record { bits = w.bits; ends = w.ends; next = w.next }
  last-writes (suc n) y s t p q e = let w = then-writes (flag & c) (λ i. nothing {A = List A} []) ((false, y), []) s t t p q q e (nothing-writes [] [] t q) in record { bits = w.bits; ends = w.ends; next = w.next }

  more-writes : (n : ℕ) (y x : A) (xs : List A) (s t u : List ℕ) (p q r : ℕ) → Writes (flag & c) (true, y) s t p q → Writes (listed z c n) (x ∷ xs) t u q r → Writes (listed z c (suc n)) (y ∷ x ∷ xs) s u p r
  unfolding listed viewed ◌then_by◌ present recurs flag
  more-writes n y x xs s t u p q r e f = let w = then-writes (flag & c) (λ i. listed z c n) ((true, y), x ∷ xs) s t u p q r e f in record { bits = w.bits; ends = w.ends; next = w.next }

  more-size : (n : ℕ) (y x : A) (xs : List A) → (listed z c (suc n)).size (y ∷ x ∷ xs) ≡ 1 + c.size y + (listed z c n).size (x ∷ xs)
  unfolding listed viewed ◌then_by◌ present recurs flag
  more-size n y x xs = refl

  last-size : (n : ℕ) (y : A) → (listed z c n).size (y ∷ []) ≡ 1 + c.size y + 0
  unfolding listed viewed ◌then_by◌ present nothing recurs tested flag
  last-size zero y = refl
  last-size (suc n) y = refl

  -- n entries are written behind place p, q is the next place, and what is written there completes the list
  pub record Writing (left : ℕ) (xs : List A) (s₀ : List ℕ) (p : ℕ) (s : List ℕ) (n q : ℕ) : Type 0 where
    pub small : n < length xs
    pub fits : length xs ≤ suc left
    pub long : length s ≡ length s₀
    pub place : q + (listed z c (left - n)).size (drop n xs) ≡ p + (listed z c left).size xs
    pub rest : (u : List ℕ) (r : ℕ) → Writes (listed z c (left - n)) (drop n xs) s u q r → Writes (listed z c left) xs s₀ u p r

  pub writing-none : (left : ℕ) (xs : List A) (s : List ℕ) (p : ℕ) → 0 < length xs → length xs ≤ suc left → Writing left xs s p s 0 p
  writing-none left xs s p h k =
      let e : left - 0 ≡ left = omega arith in
      record { small = h; fits = k; long = refl; place = ap (λ (n : ℕ). p + (listed z c n).size xs) e; rest = λ u r w. rw e at w }

  module _ (left : ℕ) (xs : List A) (s₀ : List ℕ) (p : ℕ) (s : List ℕ) (n q : ℕ) (w : Writing left xs s₀ p s n q) (d : A) where
    here : drop n xs ≡ get_or xs n d ∷ drop (suc n) xs
    here = drop-cons xs n d w.small

    last-here : length xs ≤ n + 1 → drop n xs ≡ get_or xs n d ∷ []
    last-here h = here ∙ ap (λ (l : List A). get_or xs n d ∷ l) (drop_of_length-le xs {i = suc n} (omega arith))

    more-here : n + 1 < length xs → drop n xs ≡ get_or xs n d ∷ get_or xs (suc n) d ∷ drop (suc (suc n)) xs
    more-here h = here ∙ ap (λ (l : List A). get_or xs n d ∷ l) (drop-cons xs (suc n) d (omega arith))

    less : n + 1 < length xs → left - n ≡ suc (left - (n + 1))
    less h = omega (arith, w.fits)

    pub room-last : length xs ≤ n + 1 → q + (1 + c.size (get_or xs n d)) ≤ p + (listed z c left).size xs
    room-last h = omega (arith, w.place, ap (λ (l : List A). (listed z c (left - n)).size l) (last-here h), last-size (left - n) (get_or xs n d))

    next-size : n + 1 < length xs → (listed z c (left - n)).size (drop n xs) ≡ 1 + c.size (get_or xs n d) + (listed z c (left - (n + 1))).size (drop (n + 1) xs)
    next-size h =
        rw (less h, more-here h, add-one, drop-cons xs (suc n) d (omega arith)) (more-size (left - suc n) (get_or xs n d) (get_or xs (suc n) d) (drop (suc (suc n)) xs))

    pub room-more : n + 1 < length xs → q + (1 + c.size (get_or xs n d)) ≤ p + (listed z c left).size xs
    room-more h = omega (arith, w.place, next-size h)

    pub writing_more : (t : List ℕ) (r : ℕ) → n + 1 < length xs → length t ≡ length s → Writes (flag & c) (true, get_or xs n d) s t q r → Writing left xs s₀ p t (n + 1) r
    unfolding ◌then_by◌ flag
    writing_more t r h l e =
        record {
          small = h;
          fits = w.fits;
          long = l ∙ w.long;
          place = omega (arith, w.place, next-size h, e.next);
          rest = λ u v f.
              let k : left - n ≡ suc (left - suc n) = omega (arith, w.fits) in
              let g : Writes (listed z c (left - suc n)) (get_or xs (suc n) d ∷ drop (suc (suc n)) xs) t u r v = rw (add-one n, drop-cons xs (suc n) d (omega arith)) at f in
              w.rest u v (rw (k, more-here h) (more-writes (left - suc n) (get_or xs n d) (get_or xs (suc n) d) (drop (suc (suc n)) xs) s t u q r v e g));
        }

    pub writing-last : (t : List ℕ) (r : ℕ) → length xs ≤ n + 1 → Writes (flag & c) (false, get_or xs n d) s t q r → Writes (listed z c left) xs s₀ t p r
    writing-last t r h e = w.rest t r (rw (last-here h) (last-writes (left - n) (get_or xs n d) s t q r e))

  pub cells-writes : (room most fault left : ℕ) (y : List A × ℕ) (s t : List ℕ) (p q : ℕ) → Writes (listed z c left) (take y.1 y.0) s t p q → Writes (cells z room most fault (listed z c left)) y s t p q
  unfolding cells
  cells-writes room most fault left y s t p q w = shape-writes _ _ _ _ _ _ y s t p q w

  pub cells-size : (room most fault left : ℕ) (y : List A × ℕ) → (cells z room most fault (listed z c left)).size y ≡ (listed z c left).size (take y.1 y.0)
  unfolding cells viewed
  cells-size room most fault left y = refl
