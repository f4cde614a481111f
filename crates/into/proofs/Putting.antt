-- A list with recurrence bits that is read entry by entry into octets that are all 0, for any entry of w octets. Assumes nothing.
use Prim.Native.Nat.{ℕ, zero, suc, ◌+◌, ◌-◌, ◌*◌, ◌<◌, ◌≤◌}
use mathlib.Core.Path.{◌≡◌, sym, ap, ◌∙◌}
use mathlib.Core.Bool.{Bool, true, false}
use mathlib.Core.List.{List, [], ◌∷◌, ◌++◌}
use native.Mathlib.Omega.{arith}
use lib.ListN.{length, take, drop, set, get_or, replicate, length-set}
use lib.Seq.{take_at, drop-append-add, get_or-drop}
use borrow.Rule.Slice.PartMut.{put_mid, mid_of}
use Rattle.codec.specs.Codec.{Codec, ◌&◌}
use Rattle.codec.specs.Lists.{recurs, listed, cells}
use Rattle.codec.specs.declared.FieldFault.{FieldFault}
use Rattle.codec.proofs.Lawful.{Lawful}
use Rattle.codec.proofs.Compose.{Gets, Stops}
use Rattle.codec.proofs.ListLoops.{Listing, listing_none, listing-more, listing-end, listing-stop}
use Rattle.cells.specs.Cells.{zeros, many_octets, Each}
use Rattle.cells.proofs.Sets.{Held, Long, held-set, long-octets}
use Rattle.into.proofs.Ready.{zeros-add, zeros-long}

-- an entry of the octets of a list
octets-part : {A : Type 0} (to : A → List ℕ) (w : ℕ) (l : List A) (i : ℕ) (d : A) → i < length l → Long to w l → take w (drop (i * w) (many_octets to l)) ≡ to (get_or l i d)
unfolding many_octets
octets-part to w [] i d h g = absurd (omega arith)
octets-part to w (y ∷ l) zero d h g = let z : 0 * w ≡ 0 = omega arith in rw z (take_at (to y) (many_octets to l) w g.0)
octets-part to w (y ∷ l) (suc i) d h g =
    let e : suc i * w ≡ length (to y) + i * w = omega (arith, g.0) in
    rw e (ap (take w) (drop-append-add (to y) (many_octets to l) (i * w)) ∙ octets-part to w l i d (omega arith) g.1)

module _ {A : Type 0} (z : A) (c : Codec A) (to : A → List ℕ) (Typed : A → Type 0) (w : ℕ) (long : (x : A) → Typed x → length (to x) ≡ w) (nothing : to z ≡ zeros w) (fine : Typed z) (bs : List Bool) (room : ℕ) where
  each_set : (l : List A) (i : ℕ) (x : A) → Each Typed l → Typed x → Each Typed (set l i x)
  each_set [] i x g h = tt
  each_set (y ∷ l) zero x g h = (h, g.1)
  each_set (y ∷ l) (suc i) x g h = (g.0, each_set l i x g.1 h)

  each_long : (l : List A) → Each Typed l → Long to w l
  each_long [] g = tt
  each_long (x ∷ l) g = (long x g.0, each_long l g.1)

  each_none : (k : ℕ) → Each Typed (replicate k z)
  each_none zero = tt
  each_none (suc k) = (fine, each_none k)

  zeros-many : (k : ℕ) → many_octets to (replicate k z) ≡ zeros (k * w)
  unfolding many_octets
  zeros-many zero = let e : 0 ≡ 0 * w = omega arith in ap zeros e
  zeros-many (suc k) =
      let e : w + k * w ≡ suc k * w = omega arith in
      ap (λ (l : List ℕ). l ++ many_octets to (replicate k z)) nothing ∙ ap (λ (l : List ℕ). zeros w ++ l) (zeros-many k) ∙ zeros-add w (k * w) ∙ ap zeros e

  -- n entries are read, q is the place of the next, and the octets are those of the list so far
  pub record Putting (left p : ℕ) (s : List ℕ) (n q : ℕ) : Type 0 where
    pub list : List A
    pub listing : Listing z c bs room left p list n q
    pub held : Held to w s list
    pub typed : Each Typed list

  pub putting-none : (left p : ℕ) (s : List ℕ) → s ≡ zeros (room * w) → Putting left p s 0 p
  putting-none left p s e =
      record {
        list = replicate room z;
        listing = listing_none z c bs room left p;
        held = record { is = e ∙ sym (zeros-many room); long = each_long (replicate room z) (each_none room) };
        typed = each_none room;
      }

  module _ (left p : ℕ) (s : List ℕ) (n q : ℕ) (t : Putting left p s n q) (h : left < room) where
    -- there are as many octets as at the start
    pub putting-long : length s ≡ room * w
    putting-long =
        let e : w * length t.list ≡ room * w = ap (λ (k : ℕ). w * k) t.listing.filled.len ∙ omega arith in
        ap length t.held.is ∙ long-octets to w t.list t.held.long ∙ e

    pub putting-room : n * w + w ≤ length s
    putting-room = let l : length s ≡ room * w = putting-long in let b : n < room = omega (arith, t.listing.small) in omega (arith, l, fits n room b)
      where
        fits : (i k : ℕ) → i < k → i * w + w ≤ k * w
        fits i zero b = absurd (omega arith)
        fits zero (suc k) b = omega arith
        fits (suc i) (suc k) b = let v : i * w + w ≤ k * w = fits i k (omega arith) in omega arith

    -- the next entry's octets are 0
    pub putting-part : take (n * w + w - n * w) (drop (n * w) s) ≡ zeros w
    putting-part =
        let e : n * w + w - n * w ≡ w = omega arith in
        let b : n < length t.list = omega (arith, t.listing.small, t.listing.filled.len) in
        let k : room - n ≡ suc (room - n - 1) = omega (arith, t.listing.small) in
        let d : drop n t.list ≡ replicate (suc (room - n - 1)) z = t.listing.filled.rest ∙ ap (λ (j : ℕ). replicate j z) k in
        let m : n + 0 ≡ n = omega arith in
        let g : get_or t.list n z ≡ z = ap (λ (j : ℕ). get_or t.list j z) (sym m) ∙ sym (get_or-drop n t.list 0 z) ∙ ap (λ (l : List A). get_or l 0 z) d in
        ap (λ (j : ℕ). take j (drop (n * w) s)) e ∙ ap (λ (l : List ℕ). take w (drop (n * w) l)) t.held.is ∙ octets-part to w t.list n z b t.held.long ∙ ap to g ∙ nothing

    pub putting-part-long : length (take (n * w + w - n * w) (drop (n * w) s)) ≡ w
    putting-part-long = ap length putting-part ∙ zeros-long w

    module _ (lc : Lawful c) (y : List ℕ) (x : A) (g : length y ≡ length (mid_of (n * w) (n * w + w - n * w) s)) (e : y ≡ to x) (typed : Typed x) where
      stored : Held to w (put_mid (n * w) (n * w + w - n * w) s y) (set t.list n x)
      stored = held-set to w s y t.list n x (omega (arith, t.listing.small, t.listing.filled.len)) t.held g e

      pub putting-more : (r : ℕ) → Gets (recurs (left - n) & c) bs q (true, x) r → Putting left p (put_mid (n * w) (n * w + w - n * w) s y) (n + 1) r
      putting-more r got =
          record {
            list = set t.list n x;
            listing = listing-more z c bs lc room left p t.list n q t.listing h x r got;
            held = stored;
            typed = each_set t.list n x t.typed typed;
          }

      -- the last entry: the list, its octets, and what the types say of it
      pub putting-end : (most fault r : ℕ) → Gets (recurs (left - n) & c) bs q (false, x) r → Gets (cells z room most fault (listed z c left)) bs p (set t.list n x, n + 1) r
      putting-end most fault r got = listing-end z c bs lc room left p t.list n q t.listing h x most fault r got

      pub putting-octets : put_mid (n * w) (n * w + w - n * w) s y ≡ many_octets to (set t.list n x)
      putting-octets = stored.is

      pub putting-typed : (length (set t.list n x) ≡ room) × Each Typed (set t.list n x)
      putting-typed = (length-set t.list n x ∙ t.listing.filled.len, each_set t.list n x t.typed typed)

    pub putting-stop : (most fault : ℕ) (f : FieldFault) → Stops (recurs (left - n) & c) bs q f → Stops (cells z room most fault (listed z c left)) bs p f
    putting-stop most fault f u = listing-stop z c bs room most fault left p t.list n q t.listing f u
