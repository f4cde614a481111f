-- `playing::play_blocks` meets its contract. The invariant: the calls of the first i blocks are made. Assumes nothing.
use mathlib.Core.Path.{◌≡◌}
use Rattle.record_octets.specs.Record.{header_in}
use Rattle.table_octets.specs.Table.{table_in}
use Rattle.playing.proofs.Playing.{Behind}
use Rattle.playing.proofs.play_blocks.Given as goal

abbrev pub invariant-loop-i : goal.invariant-loop-i
invariant-loop-i l = (l.i-end ≡ (header_in l.h).blocks.count) × Behind (header_in l.h) l.count.0 (table_in l.initial.t) l.i (table_in l.t)
