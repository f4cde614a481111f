-- The numbers of a step of the loops that go by octets: step j, of a field of w bits at a place, is at octet at / 8 + j. Assumes nothing.
use mathlib.Core.Path.{◌≡◌}
use Prim.Native.Nat.{ℕ, ◌+◌, ◌-◌, ◌*◌, ◌/◌, ◌%◌, ◌≤◌, ◌<◌, min}
use native.Mathlib.Omega.{arith}

-- a place is bit at % 8 of octet at / 8
pub in-octet : (at : ℕ) → 8 * (at / 8) + at % 8 ≡ at
in-octet at = omega arith

-- the octets that w bits from place `at` on touch: one step for each
abbrev pub steps_of : ℕ → ℕ → ℕ
steps_of at w = (at % 8 + w + 7) / 8

-- how many bits are done where step j begins
abbrev pub done_at : ℕ → ℕ → ℕ → ℕ
done_at at w j = min w (8 * j - at % 8)

-- the first bit, and the number of bits, of the part of its octet that the step takes
abbrev pub first_of : ℕ → ℕ → ℕ
first_of at done = (at % 8 + done) % 8

abbrev pub count_of : ℕ → ℕ → ℕ → ℕ
count_of at w done = min (8 - first_of at done) (w - done)

pub record Turn (at w j done n : ℕ) : Type 0 where
  pub within : first_of at done + n ≤ 8
  pub place : at + done ≡ 8 * (at / 8 + j) + first_of at done
  pub inside : done + n ≤ w
  pub next : done + n ≡ done_at at w (j + 1)

next-done : (e w j done b n : ℕ) → e + done ≡ 8 * j + b → done ≤ w → b < 8 → n ≡ min (8 - b) (w - done) → done + n ≡ min w (8 * (j + 1) - e)
next-done e w j done b n h k l m = omega arith

pub turn : (at w j done n : ℕ) → j < steps_of at w → done ≡ done_at at w j → n ≡ count_of at w done → Turn at w j done n
turn at w j done n hj hd hn =
    let le : done ≤ w = omega arith in
    let place : at + done ≡ 8 * (at / 8 + j) + first_of at done = omega arith in
    record { within = omega arith; place = place; inside = omega arith; next = next-done (at % 8) w j done (first_of at done) n (omega arith) le (omega arith) hn }

pub at-end : (at w j done : ℕ) → j ≤ steps_of at w → steps_of at w ≤ j → done ≡ done_at at w j → done ≡ w
at-end at w j done h k hd = omega arith
