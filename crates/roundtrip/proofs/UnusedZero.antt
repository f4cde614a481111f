-- The reader sets unused cells to 0: the record of any accepted datagram is its own normal form. Assumes nothing.
use Prim.Native.Nat.{ℕ}
use mathlib.Core.Path.{◌≡◌, ap}
use mathlib.Core.List.{List}
use Rattle.bits.specs.Bits.{bits_of}
use Rattle.codec.specs.Codec.{◌then_by◌, viewed}
use Rattle.header.specs.Table.{wire}
use Rattle.header.specs.Same.{header_norm}
use Rattle.header.specs.declared.Header.{Header}
use Rattle.header.specs.declared.Wire.{Wire}
use Rattle.header.proofs.Lawful.{wire-lawful}
use Rattle.reader.specs.Reading.{reading, accepted, record_of}
use Rattle.roundtrip.proofs.Parts.{Accepted, Known, accepted-parts}

parts-clean : (s : List ℕ) (n : ℕ) (a : Accepted s n) → header_norm (record_of a.held) ≡ record_of a.held
unfolding header_norm wire viewed ◌then_by◌
parts-clean s n a =
    let c = (wire-lawful.accepted (bits_of s) 0 a.end a.held a.got-wire).clean in
    λ i. record { front = ap (λ (w : Wire). w.front) c i; sized = a.held.size.present; blocks = ap (λ (w : Wire). w.blocks) c i }

pub unused-zero : (s : List ℕ) (h : Header) (n : ℕ) → reading s ≡ accepted h n → header_norm h ≡ h
unused-zero s h n e = let k : Known s h n = accepted-parts s h n e in rw k.1 (parts-clean s n k.0)
