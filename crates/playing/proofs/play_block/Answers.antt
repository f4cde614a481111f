-- `playing::play_block` meets its contract. Assumes nothing.
use Rattle.record_octets.specs.Record.{header_in}
use Rattle.playing.proofs.Playing.{plays-receipt, plays-posting}
use Rattle.playing.proofs.play_block.Goals as goal

pub returns-then-is_receipt : goal.returns-then-is_receipt
returns-then-is_receipt c = plays-receipt (header_in c.args.h.now) c.args.number c.args.count.0 _ _ c.args.t.now c.receipt.new.t c.is_receipt.ensures c.if-is_receipt.true c.receipt.ensures.0

pub returns-else-is_receipt : goal.returns-else-is_receipt
returns-else-is_receipt c = plays-posting (header_in c.args.h.now) c.args.number c.args.count.0 _ _ c.args.t.now c.post.new.t c.is_receipt.ensures c.if-is_receipt.false c.post.ensures.0
