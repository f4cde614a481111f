-- `recipients::fill` meets its contract. The invariant: the addresses from the i-th on are in. Assumes nothing.
use borrow.Author.Rules.{rules}
use mathlib.Core.Path.{refl, sym, ◌∙◌}
use mathlib.Core.List.{[]}
use native.Mathlib.Omega.{arith}
use Rattle.cells.specs.Cells.{part}
use Rattle.cells.proofs.Lists.{many-count, many-entry}
use Rattle.record_octets.specs.Record.{address_in, addresses_in}
use Rattle.recipients.proofs.Blanks.{filling-none, filling-more, filling-all, most}
use Rattle.recipients.proofs.fill.Goals as goal

pub loop-i-init : goal.loop-i-init
unfolding addresses_in
loop-i-init c = filling-none _ _ _ _ _ c.clear.ensures c.requires.0 c.load_word-count.ensures

pub entry-a-requires : goal.entry-a-requires
entry-a-requires c = let m = most _ c.requires.2 in let w = c.loop-i.invariant.within in search rules

pub put_recipient-n-requires : goal.put_recipient-n-requires
put_recipient-n-requires c = let m = most _ c.requires.2 in let f = c.loop-i.invariant.few in (c.loop-i.invariant.long, c.entry-a.ensures.1, omega (arith, m, f))

pub loop-i-preserved : goal.loop-i-preserved
unfolding addresses_in
loop-i-preserved c = let m = most _ c.requires.2 in let w = c.loop-i.invariant.within in filling-more _ _ _ _ _ _ (address_in []) _ _ _ (rw (many-count address_in 80 16 (part 0 1280 c.args.to.now)) m) (omega arith) refl c.loop-i.invariant (many-entry address_in 80 16 _ (part 0 1280 c.args.to.now) _ (address_in []) c.entry-a.ensures.0 (omega (arith, m, w))) c.put_recipient-n.ensures.0 c.put_recipient-n.ensures.1 c.put_recipient-n.ensures.2

pub shape_of-s : goal.shape_of-s
shape_of-s c = c.loop-i.invariant.long ∙ sym c.requires.0

pub returns : goal.returns
returns c = filling-all _ _ _ _ _ c.loop-i.invariant (omega arith)
