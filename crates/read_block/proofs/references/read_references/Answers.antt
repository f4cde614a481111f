-- `read_block::references::read_references` meets its contract. Assumes nothing.
use mathlib.Core.Path.{sym, ap, ◌∙◌}
use native.Mathlib.Omega.{arith}
use Rattle.cells.specs.Cells.{word_octets}
use Rattle.codec.proofs.Compose.{group-stop}
use Rattle.into.proofs.Telling.{into-stop, into-got}
use Rattle.into.proofs.Ready.{ready-none, ready-part, ready-next, ready-all}
use Rattle.record_octets.specs.Record.{references_octets}
use Rattle.read_block.proofs.references.read_references.Goals as goal

pub returns-in_err-count : goal.returns-in_err-count
unfolding references_octets
returns-in_err-count c = into-stop c.in_err-count.ensures.value _ c.in_err-count.field-0.0 c.from_residual.ensures.1 (group-stop _ _ _ _ _ c.in_err-count.ensures.told)

pub read_entries-requires : goal.read_entries-requires
read_entries-requires c = ready-part 448 (ready-none 452 c.args.x.now c.requires.0) (omega arith)

pub returns : goal.returns
unfolding references_octets
returns c =
    let h = c.in_ok-count.ensures.held in
    into-got c.in_ok-count.ensures.value _ c.in_ok-count.ensures.told
    (ready-all (ready-next 4 (ready-next 448 (ready-none 452 c.args.x.now c.requires.0) (omega arith) _ _ c.x-1.given.0 h.1) (omega arith) _ _ c.x-2-1.given.0 (c.store_word.ensures ∙ ap word_octets (sym h.0))))
    (record { list = (h.2.1, h.2.2); count = h.2.0 })
