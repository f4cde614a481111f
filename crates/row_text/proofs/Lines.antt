-- A text for each used cell of an array: how long all are, and how they are put one by one. Assumes nothing.
use Prim.Native.Nat.{ℕ, min, ◌+◌, ◌*◌, ◌<◌, ◌≤◌}
use mathlib.Core.Path.{◌≡◌, refl, sym, ap, ◌∙◌}
use mathlib.Core.Bool.{Bool, true, false}
use mathlib.Core.List.{List, [], ◌∷◌, ◌++◌, map}
use lib.ListN.{length, take, drop, get_or, length-append, length-take, drop_of_length-le}
use lib.Seq.{drop-cons, get_or-take, take_all, take-length}
use lib.Dec.{leb}
use borrow.Author.Tests.{leb-true, leb-false}
use native.Mathlib.Numerals.{add-one}
use native.Mathlib.Nat.{mul-suc}
use native.Mathlib.Omega.{arith}
use Rattle.order.specs.Values.{Address}
use Rattle.order.specs.Requests.{Ask, Mark}
use Rattle.row_text.specs.Text.{escaped, characters, recipient_line, recipient_lines}
use Rattle.row_text.specs.Puts.{Puts}
use Rattle.row_text.proofs.Composing.{then-puts, nothing-puts}

-- the texts of all, one behind another
unfoldable pub lines : {A : Type 0} → (A → List ℕ) → List A → List ℕ
lines g [] = []
lines g (x ∷ l) = g x ++ lines g l

pub character-lines : (l : List ℕ) → characters l ≡ lines escaped l
unfolding characters lines
character-lines [] = refl
character-lines (c ∷ l) = rw (character-lines l)

pub octet-lines : (l : List ℕ) → l ≡ lines (λ c. c ∷ []) (take (length l) l)
unfolding lines
octet-lines l = rw take-length (go l)
  where
    go : (k : List ℕ) → k ≡ lines (λ c. c ∷ []) k
    go [] = refl
    go (c ∷ k) = ap (λ (r : List ℕ). c ∷ r) (go k)

pub recipient-lines : {A : Type 0} (a : Ask) (f : A → Address × Mark) (l : List A) → recipient_lines a (map f l) ≡ lines (λ x. recipient_line a (f x)) l
unfolding recipient_lines lines
recipient-lines a f [] = refl
recipient-lines a f (x ∷ l) = rw (recipient-lines a f l)

-- a count beyond the cells stands for all
pub used-cells : {A : Type 0} (cells : List A) (count n k : ℕ) → length cells ≡ k → n ≡ min count k → take count cells ≡ take n cells
used-cells cells count n k e u = go (leb count k) refl
  where
    go : (b : Bool) → leb count k ≡ b → take count cells ≡ take n cells
    go true h = let l = leb-true count k h in let s : count ≡ n = omega arith in rw s
    go false h =
        let l = leb-false count k h in
        take_all count cells (omega arith) ∙ sym (take_all n cells (omega arith))

module _ {A : Type 0} (g : A → List ℕ) (cells : List A) (n i : ℕ) where
  no_line : n ≤ i → lines g (drop i (take n cells)) ≡ []
  unfolding lines
  no_line h = rw (drop_of_length-le (take n cells) {i = i} (rw length-take (omega arith)))

  module _ (d : A) (k : ℕ) (len : length cells ≡ k) (fit : n ≤ k) (h : i < n) where
    next-line : lines g (drop i (take n cells)) ≡ g (get_or cells i d) ++ lines g (drop (i + 1) (take n cells))
    unfolding lines
    next-line =
        let l : i < length (take n cells) = rw length-take (omega arith) in
        rw (drop-cons (take n cells) i d l, get_or-take n cells i d h, add-one)

    next-length : length (lines g (drop i (take n cells))) ≡ length (g (get_or cells i d)) + length (lines g (drop (i + 1) (take n cells)))
    next-length = rw (next-line, length-append)

-- the texts of the first i used cells have `size` octets, each of them at most `most`
pub record Measured {A : Type 0} (g : A → List ℕ) (cells : List A) (n most i size : ℕ) : Type 0 where
  pub same : size + length (lines g (drop i (take n cells))) ≡ length (lines g (take n cells))
  pub small : size ≤ most * i
  pub within : i ≤ n

-- the texts of the first i used cells are put from octet p on, and those of the others, put from octet q on, complete them
pub record Putting {A : Type 0} (g : A → List ℕ) (cells : List A) (n : ℕ) (s₀ : List ℕ) (p : ℕ) (s : List ℕ) (i q : ℕ) : Type 0 where
  pub long : length s ≡ length s₀
  pub room : q + length (lines g (drop i (take n cells))) ≡ p + length (lines g (take n cells))
  pub whole : (u : List ℕ) (r : ℕ) → Puts (lines g (drop i (take n cells))) s u q r → Puts (lines g (take n cells)) s₀ u p r

module _ {A : Type 0} (g : A → List ℕ) (cells : List A) (n : ℕ) where
  pub measured-none : (most : ℕ) → Measured g cells n most 0 0
  measured-none most = record { same = omega arith; small = omega arith; within = omega arith }

  pub putting-none : (s : List ℕ) (p : ℕ) → Putting g cells n s p s 0 p
  putting-none s p = record { long = refl; room = refl; whole = λ u r w. w }

  module _ (most i size : ℕ) (w : Measured g cells n most i size) where
    pub measured-more : (d : A) (k : ℕ) → length cells ≡ k → n ≤ k → i < n → (m : ℕ) → m ≡ length (g (get_or cells i d)) → m ≤ most → Measured g cells n most (i + 1) (size + m)
    measured-more d k len fit h m e f =
        let l = next-length g cells n i d k len fit h in
        record { same = omega (arith, w.same); small = rw (add-one, mul-suc) (omega (arith, w.small)); within = omega arith }

    pub measured-all : n ≤ i → size ≡ length (lines g (take n cells))
    measured-all h = let e = ap length (no_line g cells n i h) in omega (arith, w.same)

  module _ (s₀ : List ℕ) (p : ℕ) (s : List ℕ) (i q : ℕ) (w : Putting g cells n s₀ p s i q) where
    module _ (d : A) (k : ℕ) (len : length cells ≡ k) (fit : n ≤ k) (h : i < n) where
      pub putting-room : p + length (lines g (take n cells)) ≤ length s₀ → q + length (g (get_or cells i d)) ≤ length s
      putting-room m = let l = next-length g cells n i d k len fit h in omega (arith, w.room, w.long)

      pub putting-more : (t : List ℕ) (r : ℕ) → length t ≡ length s → Puts (g (get_or cells i d)) s t q r → Putting g cells n s₀ p t (i + 1) r
      putting-more t r m e =
          let l = next-length g cells n i d k len fit h in
          record {
            long = m ∙ w.long;
            room = omega (arith, w.room, e.ends);
            whole = λ u v f. w.whole u v (rw (next-line g cells n i d k len fit h) (then-puts e f));
          }

    pub putting-all : n ≤ i → Puts (lines g (take n cells)) s₀ s p q
    putting-all h = w.whole s q (rw (no_line g cells n i h) (nothing-puts s q))
