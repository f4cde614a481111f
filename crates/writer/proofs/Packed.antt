-- The fields and the fill bits, written one after the other, are the header's octets. Assumes nothing.
use Prim.Native.Nat.{ℕ, zero, suc, ◌*◌}
use mathlib.Core.Path.{◌≡◌, refl, ap, ap₂, ◌∙◌, subst}
use mathlib.Core.Bool.{Bool, false}
use mathlib.Core.List.{List, ◌∷◌, ◌++◌}
use lib.ListN.{length, drop, replicate, length-append}
use native.Mathlib.Omega.{arith}
use Rattle.bits.specs.Bits.{low_bits, bits_of, splice, AllOctets}
use Rattle.bits.specs.Units.{fill_bits}
use Rattle.bits.proofs.Splices.{splice-splice}
use Rattle.bits.proofs.Packing.{packed}
use Rattle.codec.specs.Writes.{Writes}
use Rattle.codec.proofs.ListLaws.{length-replicate}
use Rattle.header.specs.Table.{wire}
use Rattle.header.specs.declared.Header.{Header}
use Rattle.header.proofs.Lawful.{wire-lawful}
use Rattle.writer.specs.Writing.{wire_of, fields_end, header_size, header_bits, header_of}
use Rattle.writer.proofs.Parts.{ends-alike}

pub zero_bits : (w : ℕ) → low_bits w 0 ≡ replicate w false
unfolding low_bits
zero_bits zero = refl
zero_bits (suc w) = ap (λ (l : List Bool). false ∷ l) (zero_bits w)

module _ (h : Header) where
  pub fields-length : length (wire.write (wire_of h (header_size h))) ≡ fields_end h
  fields-length = wire-lawful.sized (wire_of h (header_size h)) ∙ ends-alike h (header_size h)

  pub header-length : length (header_bits h) ≡ 8 * header_size h
  unfolding header_bits
  header-length = rw (length-append, fields-length, length-replicate) (omega arith)

  pub header-packed : (s t u : List ℕ) (n e : ℕ) → n ≡ header_size h → Writes wire (wire_of h n) s t 0 e → bits_of u ≡ splice (bits_of t) e (replicate (fill_bits e) false) → AllOctets s → AllOctets u → u ≡ header_of h ++ drop (header_size h) s
  unfolding header_of header_bits
  header-packed s t u n e q x f a b = packed s u (header_size h) (header_bits h) a b header-length all
    where
      w : Writes wire (wire_of h (header_size h)) s t 0 e
      w = subst (λ (k : ℕ). Writes wire (wire_of h k) s t 0 e) q x

      ends : e ≡ fields_end h
      ends = omega (arith, w.ends, fields-length)

      all : bits_of u ≡ splice (bits_of s) 0 (header_bits h)
      all =
          f
          ∙ ap₂ (λ (l : List Bool) (p : ℕ). splice l p (replicate (fill_bits e) false)) w.bits w.ends
          ∙ splice-splice (bits_of s) 0 (wire.write (wire_of h (header_size h))) (replicate (fill_bits e) false)
          ∙ ap (λ (k : ℕ). splice (bits_of s) 0 (wire.write (wire_of h (header_size h)) ++ replicate (fill_bits k) false)) ends
