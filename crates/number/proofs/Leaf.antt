-- What the octets of a slice tell of a number at a place, what its check says, and what writing it leaves behind. Assumes nothing.
use Prim.Native.Nat.{ℕ, ◌+◌, ◌*◌, ◌<◌, ◌≤◌}
use mathlib.Core.Path.{◌≡◌, refl}
use mathlib.Core.List.{List}
use lib.ListN.{length}
use borrow.Author.Tests.{le-leb, lt-leb}
use Rattle.bits.specs.Bits.{low_bits, bits_of, field, splice}
use Rattle.bits.proofs.NumberBits.{length-low_bits}
use Rattle.bits.proofs.OctetBits.{length-bits_of}
use Rattle.codec.specs.Answer.{got, refused}
use Rattle.codec.specs.Codec.{number, read_number}
use Rattle.codec.specs.Writes.{Writes}

-- a number's reading
module _ (s : List ℕ) (k w lo hi fault : ℕ) where
  pub number_short : 8 * length s < k + w → refused 1 k ≡ (number w lo hi fault).read (bits_of s) k
  unfolding number read_number
  number_short h = rw (length-bits_of, lt-leb (k + w) (8 * length s) h)

  module _ (v : ℕ) (room : k + w ≤ 8 * length s) (e : v ≡ field s k w) where
    pub number-low : v < lo → refused fault k ≡ (number w lo hi fault).read (bits_of s) k
    unfolding number read_number field
    number-low h = rw (length-bits_of, le-leb (k + w) (8 * length s) room, ← e, lt-leb lo v h)

    pub number-high : lo ≤ v → hi < v → refused fault k ≡ (number w lo hi fault).read (bits_of s) k
    unfolding number read_number field
    number-high l h = rw (length-bits_of, le-leb (k + w) (8 * length s) room, ← e, le-leb lo v l, lt-leb v hi h)

    pub number-got : lo ≤ v → v ≤ hi → got v (k + w) ≡ (number w lo hi fault).read (bits_of s) k
    unfolding number read_number field
    number-got l h = rw (length-bits_of, le-leb (k + w) (8 * length s) room, ← e, le-leb lo v l, le-leb v hi h)

-- a number's check
module _ (w lo hi fault v : ℕ) where
  pub check-low : v < lo → fault ≡ (number w lo hi fault).check v
  unfolding number
  check-low h = rw (lt-leb lo v h)

  pub check-high : lo ≤ v → hi < v → fault ≡ (number w lo hi fault).check v
  unfolding number
  check-high l h = rw (le-leb lo v l, lt-leb v hi h)

  pub check-fine : lo ≤ v → v ≤ hi → 0 ≡ (number w lo hi fault).check v
  unfolding number
  check-fine l h = rw (le-leb lo v l, le-leb v hi h)

-- what was written
pub number-writes : (w lo hi fault v : ℕ) (s t : List ℕ) (p : ℕ) → bits_of t ≡ splice (bits_of s) p (low_bits w v) → Writes (number w lo hi fault) v s t p (p + w)
unfolding number
number-writes w lo hi fault v s t p e = record { bits = e; ends = rw length-low_bits; next = refl }
