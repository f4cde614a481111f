-- `inspect::well::recipients_right` meets its contract. Assumes nothing.
use mathlib.Core.Path.{refl, sym, ◌∙◌}
use native.Mathlib.Omega.{arith}
use Rattle.order.specs.Values.{address_of, by_address}
use Rattle.table.specs.WellFormed.{recipient_fine}
use Rattle.table_octets.specs.Table.{recipient_in}
use Rattle.inspect.proofs.Tests.{lined-none}
use Rattle.inspect.proofs.Entries.{entries-all, entry-bad, entry-off, entry_more, before-next, before-long}
use Rattle.table.proofs.Seeking.{no_way}
use Rattle.inspect.proofs.well.recipients_right.Goals as goal
use Rattle.inspect.proofs.well.recipients_right.Goals.{then-recipient_fine, else-recipient_fine}

pub loop-i-init : goal.loop-i-init
loop-i-init c = (lined-none _ _ _ _ _, refl)

pub entry-x-requires : goal.entry-x-requires
entry-x-requires c = omega (arith, c.requires.0, c.requires.1)

pub recipient_follows-requires : goal.recipient_follows-requires
recipient_follows-requires c = (before-long 92 c.args.list.now c.loop-i.i c.loop-i.last c.loop-i.invariant.1, c.entry-x.ensures.1)

pub returns-then-not-recipient_follows : goal.returns-then-not-recipient_follows
returns-then-not-recipient_follows c =
    let l = c.loop-i in
    elim c.if-recipient_fine.branch [
      | then-recipient_fine w ↦ entry-off recipient_in 92 16 (recipient_fine c.args.asked) by_address (λ x. address_of x.address) c.args.count c.args.list.now c.requires.1 l.i c.loop-i-test.true c.entry-x.result.now c.entry-x.ensures.0 l.invariant.0 l.last l.invariant.1 w.recipient_follows.result w.recipient_follows.ensures (sym w.value-is ∙ c.if-not-recipient_follows.true)
      | else-recipient_fine w ↦ entry-bad recipient_in 92 16 (recipient_fine c.args.asked) by_address (λ x. address_of x.address) c.args.count c.args.list.now c.requires.1 l.i c.loop-i-test.true c.entry-x.result.now c.entry-x.ensures.0 l.invariant.0 (sym c.recipient_fine.ensures ∙ w.if-recipient_fine.false)
    ]

pub loop-i-preserved : goal.loop-i-preserved
loop-i-preserved c =
    let l = c.loop-i in
    elim c.if-recipient_fine.branch [
      | then-recipient_fine w ↦ (
        entry_more recipient_in 92 16 (recipient_fine c.args.asked) by_address (λ x. address_of x.address) c.args.count c.args.list.now c.requires.1 l.i c.loop-i-test.true c.entry-x.result.now c.entry-x.ensures.0 l.invariant.0 l.last l.invariant.1 w.recipient_follows.result w.recipient_follows.ensures (sym c.recipient_fine.ensures ∙ w.if-recipient_fine.true) (sym w.value-is ∙ c.if-not-recipient_follows.false),
        before-next 92 c.args.list.now l.i c.entry-x.result c.entry-x.ensures.0 c.entry-x.ensures.1,
      )
      | else-recipient_fine w ↦ no_way (sym w.if-recipient_fine.false ∙ sym w.value-is ∙ c.if-not-recipient_follows.false)
    ]

pub returns : goal.returns
returns c =
    let l = c.loop-i in
    entries-all recipient_in 92 16 (recipient_fine c.args.asked) by_address (λ x. address_of x.address) c.args.count c.args.list.now c.requires.1 l.i l.invariant.0 c.loop-i-test.false
