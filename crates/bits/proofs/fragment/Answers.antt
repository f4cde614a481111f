-- `bits::fragment` meets its contract: a shift right is a division by a power of two, and 1 shifted left is that power. Assumes nothing.
use mathlib.Core.Path.{ap}
use Prim.Native.Nat.{ℕ, ◌/◌, ◌%◌, ◌^◌}
use lib.Pow.{pow_pos}
use borrow.Author.Rules.{rules}
use Rattle.bits.proofs.Shifts.{one_shl}
use Rattle.bits.proofs.fragment.Goals as goal

pub nonzero_rem-result : goal.nonzero_rem-result
nonzero_rem-result c = rw (one_shl c.args.n (search rules)) (pow_pos c.args.n)

pub returns : goal.returns
returns c = ap (λ (k : ℕ). c.args.x / 2 ^ c.args.b % k) (one_shl c.args.n (search rules))
