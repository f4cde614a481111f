-- Numbers in decimal, digit by digit from the right: how many digits there are, and where each stands. Assumes nothing.
use Prim.Native.Nat.{ℕ, zero, suc, ◌+◌, ◌-◌, ◌*◌, ◌/◌, ◌%◌, ◌^◌, ◌≤◌, ◌<◌}
use mathlib.Core.Path.{◌≡◌, refl, ap₂, ◌∙◌}
use mathlib.Core.List.{List, [], ◌∷◌, ◌++◌, append_assoc}
use lib.ListN.{length, take, drop, set, length-append, length-set}
use lib.Seq.{take-set-le, set_split, drop_at, length-take-le}
use borrow.Author.Tests.{le-leb, lt-leb}
use native.Mathlib.Nat.{pow-succ'}
use native.Mathlib.Omega.{arith}
use Rattle.row_text.specs.Text.{digit, digits, decimal}
use Rattle.row_text.specs.Puts.{Puts}
use Rattle.row_text.proofs.Composing.{set-puts}

-- the last digit, behind those of a tenth
tens : (k n : ℕ) → 10 ≤ n → digits (suc k) n ≡ digits k (n / 10) ++ digit (n % 10) ∷ []
unfolding digits
tens k n h = rw (le-leb 10 n h)

one-digit : (k n : ℕ) → n < 10 → digits (suc k) n ≡ digit n ∷ []
unfolding digits
one-digit k n h =
    let e : n % 10 ≡ n = omega arith in
    rw (lt-leb 10 n h, e)

tens-length : (k n : ℕ) → 10 ≤ n → length (digits (suc k) n) ≡ length (digits k (n / 10)) + 1
tens-length k n h = rw (tens k n h, length-append)

-- a number with a tenth has one digit more
tenth : (k n : ℕ) → 10 ≤ n → n < 10 ^ suc k → (j : ℕ) × (k ≡ suc j) × (n / 10 < 10 ^ suc j)
tenth zero n h l = absurd (omega arith)
tenth (suc j) n h l = let e : 10 ^ suc (suc j) ≡ 10 * 10 ^ suc j = pow-succ' 10 (suc j) in (j, refl, omega arith)

-- `count` digits of n are counted with the first of those of `rest`, a number with at most `fuel` more
pub record Counting (n rest count : ℕ) : Type 0 where
  pub fuel : ℕ
  pub small : rest < 10 ^ suc fuel
  pub turns : fuel + count ≡ 10
  pub same : length (decimal n) + 1 ≡ length (digits (suc fuel) rest) + count

pub counting-none : (n : ℕ) → n < 2 ^ 32 → Counting n n 1
counting-none n h = record { fuel = 9; small = omega arith; turns = refl; same = refl }

module _ (n rest count : ℕ) (w : Counting n rest count) where
  pub counting_more : 10 ≤ rest → Counting n (rest / 10) (count + 1)
  counting_more h =
      let t = tenth w.fuel rest h w.small in
      let l = tens-length w.fuel rest h in
      record {
        fuel = t.0;
        small = t.2;
        turns = omega (arith, w.turns, t.1);
        same = rw (← t.1) (omega (arith, w.same));
      }

  pub counting-all : rest < 10 → (count ≡ length (decimal n)) × (count ≤ 10)
  counting-all h =
      let l : length (digits (suc w.fuel) rest) ≡ 1 = rw (one-digit w.fuel rest h) in
      (omega (arith, w.same), omega (arith, w.turns))

-- a text put before an octet that stands already
last-puts : {a s u : List ℕ} {p q : ℕ} (c : ℕ) → q < length s → Puts a (set s q c) u p q → Puts (a ++ c ∷ []) s u p (q + 1)
last-puts {a} {s} {u} {p} {q} c h w =
    let front : take p (set s q c) ≡ take p s = take-set-le p s q c (omega (arith, w.ends)) in
    let back : drop (p + length a) (set s q c) ≡ c ∷ drop (suc q) s =
    rw (← w.ends, set_split s q c h) (drop_at (take q s) (c ∷ drop (suc q) s) q (length-take-le q s (omega arith))) in
    let e : suc q ≡ p + length (a ++ c ∷ []) = rw length-append (omega (arith, w.ends)) in
    record {
      octets = w.octets ∙ ap₂ (λ (x y : List ℕ). x ++ (a ++ y)) front back ∙ rw (e, append_assoc a (c ∷ []));
      ends = omega arith;
    }

-- the digits of n up to `end` are put but for those of `rest`, which belong before `place`
pub record Filling (n : ℕ) (s₀ : List ℕ) (p end : ℕ) (s : List ℕ) (place rest : ℕ) : Type 0 where
  pub fuel : ℕ
  pub small : rest < 10 ^ suc fuel
  pub long : length s ≡ length s₀
  pub stands : place ≡ p + length (digits (suc fuel) rest)
  pub within : place ≤ end
  pub whole : (u : List ℕ) → Puts (digits (suc fuel) rest) s u p place → Puts (decimal n) s₀ u p end

pub filling-none : (n : ℕ) (s : List ℕ) (p end : ℕ) → n < 2 ^ 32 → end ≡ p + length (decimal n) → Filling n s p end s end n
filling-none n s p end h e = record { fuel = 9; small = omega arith; long = refl; stands = e; within = omega arith; whole = λ u w. w }

module _ (n : ℕ) (s₀ : List ℕ) (p end : ℕ) (s : List ℕ) (place rest : ℕ) (w : Filling n s₀ p end s place rest) where
  -- a digit of rest stands there
  pub filling-there : p < place
  unfolding digits
  filling-there = omega (arith, rw length-append at w.stands)

  pub filling-more : 10 ≤ rest → end ≤ length s₀ → Filling n s₀ p end (set s (place - 1) (digit (rest % 10))) (place - 1) (rest / 10)
  filling-more h l =
      let t = tenth w.fuel rest h w.small in
      let k = tens-length w.fuel rest h in
      let d : ℕ = digit (rest % 10) in
      let e : place - 1 + 1 ≡ place = omega (arith, filling-there) in
      let i : place - 1 < length s = omega (arith, filling-there, w.within, w.long) in
      record {
        fuel = t.0;
        small = t.2;
        long = length-set s (place - 1) d ∙ w.long;
        stands = rw (← t.1) (omega (arith, w.stands));
        within = omega (arith, w.within);
        whole = λ u x. w.whole u (rw (tens w.fuel rest h) (rw e at (last-puts {s = s} d i (rw (← t.1) at x))));
      }

  pub filling-all : rest < 10 → end ≤ length s₀ → Puts (decimal n) s₀ (set s p (digit rest)) p end
  filling-all h l =
      let o = one-digit w.fuel rest h in
      let e : place ≡ p + 1 = omega (arith, rw o at w.stands) in
      w.whole (set s p (digit rest)) (rw (o, e) (set-puts s p (digit rest) (omega (arith, w.within, w.long))))
