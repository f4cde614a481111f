-- `survey::look` meets its contract. Assumes nothing.
use Prim.Native.Nat.{ℕ, ◌+◌}
use mathlib.Core.Path.{ap, ◌∙◌}
use native.Mathlib.Omega.{arith}
use Rattle.header.specs.Table.{block}
use Rattle.record_octets.specs.Record.{block_in}
use Rattle.survey.proofs.look.Goals as goal

pub end_flag-behind-requires : goal.end_flag-behind-requires
end_flag-behind-requires c = omega (arith, c.requires.0)

pub end_block-requires : goal.end_block-requires
end_block-requires c = (omega (arith, c.requires.0, c.end_flag-behind.ensures), c.requires.1, c.requires.2)

pub returns : goal.returns
returns c = (
  c.see.ensures,
  c.end_block.ensures ∙ ap (λ (k : ℕ). k + (block c.args.version).size (block_in c.args.b.now)) c.end_flag-behind.ensures,
)
