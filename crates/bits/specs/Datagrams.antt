-- The bits of a datagram.
use Rattle.std.specs.Prelude.{Bool, List}
use Rattle.bits.specs.Bits.{bits_of}
use Rattle.bits.specs.declared.Datagram.{Datagram}

abbrev pub bits_in : Datagram → List Bool
bits_in d = bits_of d.octets.now
