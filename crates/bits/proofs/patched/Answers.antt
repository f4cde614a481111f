-- `bits::patched` meets its contract: the sum of the three parts is the number whose bits are those of the parts, so it is below 2 ^ 8 and has those low_bits. Assumes nothing.
use mathlib.Core.Path.{◌≡◌, sym, ap, ap₂, ◌∙◌, subst}
use mathlib.Core.Bool.{Bool}
use mathlib.Core.List.{List, ◌++◌}
use Prim.Native.Nat.{ℕ, ◌+◌, ◌-◌, ◌*◌, ◌/◌, ◌%◌, ◌^◌, ◌≤◌, ◌<◌}
use native.Mathlib.Nat.{mod-eq_of_lt}
use native.Mathlib.Omega.{arith}
use lib.ListN.{length, length-append}
use lib.Pow.{pow_pos, pow-add, shl_exact, shr_lt}
use borrow.Author.Rules.{rules}
use Rattle.bits.specs.Bits.{low_bits, value}
use Rattle.bits.proofs.NumberBits.{length-low_bits, value-append, value-low_bits, value-lt, low_bits-value-at}
use Rattle.bits.proofs.Shifts.{one_shl}
use Rattle.bits.proofs.patched.Goals as goal

abbrev parts : ℕ → ℕ → ℕ → ℕ → List Bool
parts x b n f = low_bits b x ++ (low_bits n f ++ low_bits (8 - (b + n)) (x / 2 ^ (b + n)))

-- what the code computes, as the machine has it
abbrev computed : ℕ → ℕ → ℕ → ℕ → ℕ
computed x b n f = x % ((1 * 2 ^ b) % 2 ^ 32) + (f * 2 ^ b) % 2 ^ 32 + (x / 2 ^ (b + n) * 2 ^ (b + n)) % 2 ^ 32

parts-length : (x b n f : ℕ) → b + n ≤ 8 → length (parts x b n f) ≡ 8
parts-length x b n f h =
    simp (length-append, length-low_bits) (omega arith)

parts-value : (x b n f : ℕ) → b + n ≤ 8 → f < 2 ^ n → x < 2 ^ 8 → computed x b n f ≡ value (parts x b n f)
parts-value x b n f h hf hx =
    let m : ℕ = 8 - (b + n) in
    let H : ℕ = x / 2 ^ (b + n) in
    let e8 : 8 ≡ m + (b + n) = omega arith in
    let h_h : H < 2 ^ m = shr_lt m (b + n) (subst (λ (k : ℕ). x < 2 ^ k) e8 hx) in
    let c1 : x % ((1 * 2 ^ b) % 2 ^ 32) ≡ x % 2 ^ b = ap (λ (k : ℕ). x % k) (one_shl b (omega arith)) in
    let c2 : (f * 2 ^ b) % 2 ^ 32 ≡ f * 2 ^ b = shl_exact n b 32 hf (omega arith) in
    let c3 : (H * 2 ^ (b + n)) % 2 ^ 32 ≡ H * 2 ^ (b + n) = shl_exact m (b + n) 32 h_h (omega arith) in
    let c4 : H * 2 ^ (b + n) ≡ H * (2 ^ b * 2 ^ n) = ap (λ (k : ℕ). H * k) (pow-add 2 b n) in
    let D : List Bool = low_bits n f ++ low_bits m H in
    let v1 : value (low_bits b x ++ D) ≡ x % 2 ^ b + 2 ^ b * value D =
    value-append (low_bits b x) D ∙ ap₂ (λ (p k : ℕ). p + 2 ^ k * value D) (value-low_bits b x) (length-low_bits b x) in
    let v2 : value D ≡ f + 2 ^ n * H =
    value-append (low_bits n f) (low_bits m H)
    ∙ ap₂ (λ (p k : ℕ). p + 2 ^ k * value (low_bits m H)) (value-low_bits n f ∙ mod-eq_of_lt hf) (length-low_bits n f)
    ∙ ap (λ (k : ℕ). f + 2 ^ n * k) (value-low_bits m H ∙ mod-eq_of_lt h_h) in
    let v3 : 2 ^ b * value D ≡ 2 ^ b * (f + 2 ^ n * H) = ap (λ (k : ℕ). 2 ^ b * k) v2 in
    omega arith

computed-lt : (x b n f : ℕ) → b + n ≤ 8 → f < 2 ^ n → x < 2 ^ 8 → computed x b n f < 2 ^ 8
computed-lt x b n f h hf hx =
    subst (λ (k : ℕ). k < 2 ^ 8) (sym (parts-value x b n f h hf hx))
    (subst (λ (k : ℕ). value (parts x b n f) < 2 ^ k) (parts-length x b n f h) (value-lt (parts x b n f)))

computed-low_bits : (x b n f : ℕ) → b + n ≤ 8 → f < 2 ^ n → x < 2 ^ 8 → low_bits 8 (computed x b n f) ≡ parts x b n f
computed-low_bits x b n f h hf hx =
    ap (low_bits 8) (parts-value x b n f h hf hx) ∙ low_bits-value-at 8 (parts x b n f) (parts-length x b n f h)

pub nonzero_rem-low : goal.nonzero_rem-low
nonzero_rem-low c = rw (one_shl c.args.b (search rules)) (pow_pos c.args.b)

pub overflow_add-result : goal.overflow_add-result
overflow_add-result c =
    let a = c.args in
    omega (arith, computed-lt a.x a.b a.n a.f c.requires.0 c.requires.1 c.ranges.x.fits)

pub overflow_add-result-3 : goal.overflow_add-result-3
overflow_add-result-3 c =
    let a = c.args in
    omega (arith, computed-lt a.x a.b a.n a.f c.requires.0 c.requires.1 c.ranges.x.fits)

pub overflow_cast-result-3 : goal.overflow_cast-result-3
overflow_cast-result-3 c =
    let a = c.args in
    record { fits = computed-lt a.x a.b a.n a.f c.requires.0 c.requires.1 c.ranges.x.fits }

pub returns : goal.returns
returns c =
    let a = c.args in
    computed-low_bits a.x a.b a.n a.f c.requires.0 c.requires.1 c.ranges.x.fits
