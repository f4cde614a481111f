-- `playing::is_receipt` meets its contract. Assumes nothing.
use borrow.Author.Rules.{rules}
use mathlib.Core.Path.{◌∙◌}
use mathlib.Core.Logic.{inl, inr}
use native.Mathlib.Omega.{arith}
use Rattle.cells.proofs.Lists.{many-count, many-entry}
use Rattle.header.specs.Zero.{no_block}
use Rattle.record_octets.specs.Record.{block_in, blocks_in, header_in}
use Rattle.playing.proofs.Playing.{no-block, past-blocks, at_block}
use Rattle.playing.proofs.is_receipt.Goals as goal

pub returns-then-number-lt1 : goal.returns-then-number-lt1
unfolding header_in blocks_in
returns-then-number-lt1 c =
    elim c.then-number-lt1.either [
      | inl h ↦ no-block (header_in c.args.h.now) c.args.number h
      | inr h ↦ past-blocks (header_in c.args.h.now) c.args.number (many-count block_in 852 16 _) h.1
    ]

pub has_response-requires : goal.has_response-requires
has_response-requires c = c.entry.ensures.1

pub returns : goal.returns
unfolding header_in blocks_in
returns c = c.has_response.ensures ∙ at_block (header_in c.args.h.now) c.args.number _ (search rules) (many-entry block_in 852 16 _ _ _ no_block c.entry.ensures.0 (omega arith))
