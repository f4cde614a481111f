-- Where the bits of a list of octets lie, of the definition that every contract cites: the k-th is the one of weight 2 ^ (k mod 8) in octet k div 8, as document 01 has
-- it. It holds of every list of octets and every k within it. Assumes nothing.
use mathlib.Core.Path.{◌≡◌, sym, ap, ◌∙◌}
use mathlib.Core.Bool.{Bool, false}
use mathlib.Core.List.{List, ◌∷◌}
use Prim.Native.Nat.{ℕ, suc, ◌*◌, ◌/◌, ◌%◌, ◌^◌, ◌<◌}
use native.Mathlib.Omega.{arith}
use lib.ListN.{length, take, drop, get_or}
use lib.Seq.{drop-cons}
use Rattle.bits.specs.Bits.{bit_of, low_bits, bits_of}
use Rattle.bits.proofs.OctetBits.{length-bits_of, fragment-bits}
use Rattle.bits.proofs.Steps.{in-octet}

pub bit-of-octet : (s : List ℕ) (k : ℕ) → k < 8 * length s → get_or (bits_of s) k false ≡ bit_of (get_or s (k / 8) 0) (k % 8)
unfolding low_bits
bit-of-octet s k h =
    let lb : length (bits_of s) ≡ 8 * length s = length-bits_of s in
    let x : ℕ = get_or s (k / 8) 0 in
    let f : take 1 (drop k (bits_of s)) ≡ low_bits 1 (x / 2 ^ (k % 8)) =
    ap (λ (n : ℕ). take 1 (drop n (bits_of s))) (sym (in-octet k)) ∙ fragment-bits s (k / 8) (k % 8) 1 (omega arith) (omega arith) in
    let g : drop k (bits_of s) ≡ get_or (bits_of s) k false ∷ drop (suc k) (bits_of s) = drop-cons (bits_of s) k false (omega arith) in
    ap (λ (l : List Bool). get_or l 0 false) (sym (ap (take 1) g) ∙ f)
