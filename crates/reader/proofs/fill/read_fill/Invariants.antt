-- What is left of the fill bits is read from here.
use Prim.Native.Nat.{◌-◌}
use mathlib.Core.Path.{◌≡◌}
use Rattle.bits.specs.Datagrams.{bits_in}
use Rattle.bits.specs.Units.{fill_bits}
use Rattle.reader.specs.Reading.{read_fill}
use Rattle.reader.proofs.fill.read_fill.Given as goal

abbrev pub invariant-loop : goal.invariant-loop
invariant-loop l = read_fill (fill_bits l.initial.place.0) (bits_in l.s) l.initial.place.0 ≡ read_fill (l.left - l.counter) (bits_in l.s) l.place.0
