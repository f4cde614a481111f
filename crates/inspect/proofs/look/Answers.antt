-- `inspect::look` meets its contract. Assumes nothing.
use mathlib.Core.Path.{refl, sym, ◌∙◌}
use native.Mathlib.Omega.{arith}
use Rattle.order.specs.Values.{key_of, by_key}
use Rattle.table.specs.WellFormed.{row_fine}
use Rattle.table_octets.specs.Table.{key_in, row_in}
use Rattle.inspect.proofs.Tests.{lined-none}
use Rattle.inspect.proofs.Sought.{sought-none}
use Rattle.inspect.proofs.Entries.{fits, entries-all, entry-bad, entry-off, entry_more, entry_place, before-next, before-long}
use Rattle.inspect.proofs.Looked.{within, placed}
use Rattle.table.proofs.Seeking.{no_way}
use Rattle.inspect.proofs.look.Goals as goal
use Rattle.inspect.proofs.look.Goals.{then-row_fine, else-row_fine}

pub loop-i-init : goal.loop-i-init
loop-i-init c = (lined-none _ _ _ _ _, refl, sought-none _ _ _ _ _)

pub entry-row-requires : goal.entry-row-requires
entry-row-requires c = omega (arith, c.requires.0, c.requires.1)

pub row_follows-requires : goal.row_follows-requires
row_follows-requires c = (before-long 1592 c.args.rows.now c.loop-i.i c.loop-i.last c.loop-i.invariant.1, c.entry-row.ensures.1)

pub returns-then-not-row_follows : goal.returns-then-not-row_follows
returns-then-not-row_follows c =
    let l = c.loop-i in
    elim c.if-row_fine.branch [
      | then-row_fine w ↦ (within _ _ c.requires.1 (entry-off row_in 1592 32 row_fine by_key (λ r. key_of r.key) c.args.n c.args.rows.now c.requires.1 l.i c.loop-i-test.true c.entry-row.result.now c.entry-row.ensures.0 l.invariant.0 l.last l.invariant.1 w.row_follows.result w.row_follows.ensures (sym w.value-is ∙ c.if-not-row_follows.true)), tt)
      | else-row_fine w ↦ (within _ _ c.requires.1 (entry-bad row_in 1592 32 row_fine by_key (λ r. key_of r.key) c.args.n c.args.rows.now c.requires.1 l.i c.loop-i-test.true c.entry-row.result.now c.entry-row.ensures.0 l.invariant.0 (sym c.row_fine.ensures ∙ w.if-row_fine.false)), tt)
    ]

pub further-place-requires : goal.further-place-requires
further-place-requires c = (omega (arith, c.requires.1), c.requires.2, c.entry-row.ensures.1)

pub loop-i-preserved : goal.loop-i-preserved
loop-i-preserved c =
    let l = c.loop-i in
    elim c.if-row_fine.branch [
      | then-row_fine w ↦ (
        entry_more row_in 1592 32 row_fine by_key (λ r. key_of r.key) c.args.n c.args.rows.now c.requires.1 l.i c.loop-i-test.true c.entry-row.result.now c.entry-row.ensures.0 l.invariant.0 l.last l.invariant.1 w.row_follows.result w.row_follows.ensures (sym c.row_fine.ensures ∙ w.if-row_fine.true) (sym w.value-is ∙ c.if-not-row_follows.false),
        before-next 1592 c.args.rows.now l.i c.entry-row.result c.entry-row.ensures.0 c.entry-row.ensures.1,
        entry_place row_in 1592 32 row_fine by_key (λ r. key_of r.key) c.args.n c.args.rows.now c.requires.1 l.i c.loop-i-test.true c.entry-row.result.now c.entry-row.ensures.0 (key_of (key_in c.args.key.now)) l.place l.invariant.2 _ c.further-place.ensures,
      )
      | else-row_fine w ↦ no_way (sym w.if-row_fine.false ∙ sym w.value-is ∙ c.if-not-row_follows.false)
    ]

pub returns : goal.returns
returns c =
    let l = c.loop-i in (
      within _ _ c.requires.1 (entries-all row_in 1592 32 row_fine by_key (λ r. key_of r.key) c.args.n c.args.rows.now c.requires.1 l.i l.invariant.0 c.loop-i-test.false),
      placed _ (key_in c.args.key.now) l.i l.place (fits row_in 1592 32 row_fine by_key (λ r. key_of r.key) c.args.n c.args.rows.now c.requires.1) l.invariant.2 c.loop-i-test.false,
    )
