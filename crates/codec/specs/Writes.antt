-- What writing needs and what it leaves behind.
use Rattle.std.specs.Prelude.{ℕ, ◌+◌, ◌*◌, ◌≤◌, ◌≡◌, List, length}
use Rattle.bits.specs.Bits.{bits_of, splice}
use Rattle.bits.specs.Units.{datagram_limit}
use Rattle.codec.specs.Codec.{Codec}

-- n bits from place p on end at a place of a datagram
abbrev pub Placed : ℕ → ℕ → Type 0
Placed p n = p + n ≤ 8 * datagram_limit

-- there is room for them in the output too
abbrev pub Room : List ℕ → ℕ → ℕ → Type 0
Room out p n = (p + n ≤ 8 * length out) × Placed p n

-- `after` is `before` with x's bits from place p on and every other bit as it was, and q is the place behind them: by the bits written, and by
-- the size that the codec tells (one number for a lawful codec; groups are put together by the first, and room is counted by the second)
pub record Writes {A : Type 0} (c : Codec A) (x : A) (before after : List ℕ) (p q : ℕ) : Type 0 where
  pub bits : bits_of after ≡ splice (bits_of before) p (c.write x)
  pub ends : q ≡ p + length (c.write x)
  pub next : q ≡ p + c.size x
