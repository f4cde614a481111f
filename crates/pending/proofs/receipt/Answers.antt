-- `pending::receipt` meets its contract. Assumes nothing.
use borrow.Author.Rules.{rules}
use mathlib.Core.Path.{◌≡◌, ap, subst, ◌∙◌}
use Rattle.record_octets.specs.Record.{address_in, block_in, header_in}
use Rattle.order.specs.Values.{key_of}
use Rattle.order.specs.Calls.{Call}
use Rattle.table_octets.specs.Table.{key_in}
use Rattle.table_octets.specs.Image.{key_image}
use Rattle.table_octets.proofs.Back.{key-back}
use Rattle.arguments.specs.Arguments.{receipt_key}
use Rattle.arguments.specs.Told.{answer_says}
use Rattle.transitions.specs.Transition.{Transition}
use Rattle.pending.proofs.Named.{receipt-asks, receipt-named}
use Rattle.pending.proofs.receipt.Goals as goal
use Rattle.pending.proofs.receipt.Goals.{After-put_receipt_key}

-- the key that was put together
key-is : (c : After-put_receipt_key) → key_in c.put_receipt_key.new.k ≡ key_image (key_of (receipt_key (header_in c.args.h.now) (block_in c.block_at-block.result.now)))
key-is c = ap key_in c.put_receipt_key.ensures.0 ∙ key-back (key_image (key_of (receipt_key (header_in c.args.h.now) (block_in c.block_at-block.result.now)))) c.put_receipt_key.ensures.1

pub settle_row-requires : goal.settle_row-requires
settle_row-requires c = (
  search rules,
  search rules,
  c.originator-from.ensures.0,
  c.check_receipt-said.ensures.1,
  receipt-asks (header_in c.args.h.now) c.args.number c.args.count.0 (block_in c.block_at-block.result.now) c.block_at-block.ensures.1 (key_in c.put_receipt_key.new.k) (key-is (goal.at.settle_row-requires c).After-put_receipt_key) (address_in c.originator-from.result.now) c.originator-from.ensures.1 c.compliance_code-code.result c.compliance_code-code.ensures _ c.check_receipt-said.ensures.0,
)

pub returns : goal.returns
returns c = (
  subst (λ (x : Call). Transition x c.args.t.now (answer_says c.settle_row.result) c.settle_row.new.t)
      (receipt-named (header_in c.args.h.now) c.args.number c.args.count.0 (block_in c.block_at-block.result.now) c.block_at-block.ensures.1 (key_in c.put_receipt_key.new.k) (key-is (goal.at.returns c).After-put_receipt_key) (address_in c.originator-from.result.now) c.originator-from.ensures.1 c.compliance_code-code.result c.compliance_code-code.ensures _ c.check_receipt-said.ensures.0) c.settle_row.ensures.0,
  c.settle_row.ensures.1,
)
