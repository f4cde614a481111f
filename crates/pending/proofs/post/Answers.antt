-- `pending::post` meets its contract. Assumes nothing.
use borrow.Author.Rules.{rules}
use mathlib.Core.Path.{◌≡◌, sym, ap, subst, ◌∙◌}
use Rattle.record_octets.specs.Record.{addresses_in, block_in, header_in}
use Rattle.order.specs.Values.{key_of}
use Rattle.order.specs.Calls.{Call}
use Rattle.table_octets.specs.Table.{key_in, key_octets}
use Rattle.table_octets.specs.Typed.{TypedKey}
use Rattle.table_octets.specs.Image.{key_image}
use Rattle.table_octets.proofs.Back.{key-back}
use Rattle.table_octets.proofs.Images.{key-of-image}
use Rattle.arguments.specs.Arguments.{posting_key}
use Rattle.arguments.specs.Told.{answer_says}
use Rattle.transitions.specs.Transition.{Transition}
use Rattle.pending.proofs.Named.{post-asks, post-named}
use Rattle.pending.proofs.post.Goals as goal
use Rattle.pending.proofs.post.Goals.{After-put_posting_key}

-- the key that was put together
key-is : (c : After-put_posting_key) → key_in c.put_posting_key.new.k ≡ key_image (key_of (posting_key (header_in c.args.h.now) (block_in c.block_at-block.result.now)))
key-is c = ap key_in c.put_posting_key.ensures.0 ∙ key-back (key_image (key_of (posting_key (header_in c.args.h.now) (block_in c.block_at-block.result.now)))) c.put_posting_key.ensures.1

clean : (c : After-put_posting_key) → key_image (key_of (posting_key (header_in c.args.h.now) (block_in c.block_at-block.result.now))) ≡ key_image (key_of (key_in c.put_posting_key.new.k))
clean c = ap key_image (sym (ap key_of (key-is c) ∙ key-of-image (key_of (posting_key (header_in c.args.h.now) (block_in c.block_at-block.result.now)))))

pub post_row-requires : goal.post_row-requires
post_row-requires c = (
  search rules,
  c.put_posting_key.ensures.0 ∙ ap key_octets (clean (goal.at.post_row-requires c).After-put_posting_key),
  subst TypedKey (clean (goal.at.post_row-requires c).After-put_posting_key) c.put_posting_key.ensures.1,
  c.recipients-to.ensures.0,
  c.check_posting-said.ensures.1,
  post-asks (header_in c.args.h.now) c.args.number c.args.count.0 (block_in c.block_at-block.result.now) c.block_at-block.ensures.1 (key_in c.put_posting_key.new.k) (key-is (goal.at.post_row-requires c).After-put_posting_key) c.load_asked-asked.result c.load_asked-asked.ensures (addresses_in c.recipients-to.result.now) c.recipients-to.ensures.1 _ c.check_posting-said.ensures.0,
)

pub returns : goal.returns
returns c = (
  subst (λ (x : Call). Transition x c.args.t.now (answer_says c.post_row.result) c.post_row.new.t)
      (post-named (header_in c.args.h.now) c.args.number c.args.count.0 (block_in c.block_at-block.result.now) c.block_at-block.ensures.1 (key_in c.put_posting_key.new.k) (key-is (goal.at.returns c).After-put_posting_key) c.load_asked-asked.result c.load_asked-asked.ensures (addresses_in c.recipients-to.result.now) c.recipients-to.ensures.1 _ c.check_posting-said.ensures.0) c.post_row.ensures.0,
  c.post_row.ensures.1,
)
