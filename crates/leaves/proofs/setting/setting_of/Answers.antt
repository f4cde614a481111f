-- `leaves::setting::setting_of` meets its contract. Assumes nothing.
use Prim.Native.Nat.{ℕ}
use mathlib.Core.Path.{ap}
use lib.Dec.{leb}
use Rattle.record_octets.specs.Record.{header_in}
use Rattle.leaves.proofs.setting.setting_of.Goals as goal

pub returns : goal.returns
unfolding header_in
returns c = λ i. record { originator = c.has_originator-originator.ensures i; compression = c.has_compression-compression.ensures i; sized = c.load_flag-sized.ensures i; several = ap (λ (n : ℕ). leb 2 n) c.block_count-count.ensures i }
