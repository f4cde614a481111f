-- Bit places and octet sizes: the conversion between them, and the longest datagram.
use Rattle.std.specs.Prelude.{ℕ, ◌+◌, ◌-◌, ◌*◌, ◌/◌}

-- the whole octets that hold the bits before a place
abbrev pub whole_octets : ℕ → ℕ
whole_octets end = (end + 7) / 8

-- the fill bits from a header's end up to a whole octet
abbrev pub fill_bits : ℕ → ℕ
fill_bits end = 8 * whole_octets end - end

-- no datagram has more octets (document 01's refusal 12)
abbrev pub datagram_limit : ℕ
datagram_limit = 65507
