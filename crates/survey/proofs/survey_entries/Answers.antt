-- `survey::survey_entries` meets its contract. The invariant: the blocks so far are legal, and what they show. Assumes nothing.
use borrow.Author.Rules.{rules}
use Prim.Native.Nat.{ℕ}
use mathlib.Core.Path.{refl, ap, sym, subst, ◌∙◌}
use native.Mathlib.Omega.{arith}
use Rattle.codec.specs.Codec.{viewed}
use Rattle.codec.specs.Refusals.{check_no}
use Rattle.codec.proofs.Compose.{handed}
use Rattle.codec.proofs.ListChecks.{count-over, count_none, checking-bad}
use Rattle.cells.proofs.Lists.{many-count, many-entry}
use Rattle.header.specs.Zero.{no_block}
use Rattle.header.specs.Table.{block, blocks}
use Rattle.record_octets.specs.Record.{block_in, blocks_of}
use Rattle.survey.proofs.Surveys.{fine-check, Surveyed, surveyed-none, surveyed-room, surveyed-more, surveyed-all}
use Rattle.survey.proofs.survey_entries.Goals as goal
use Rattle.survey.proofs.survey_entries.Goals.{then-count-gt16-via-then-count-gt16, then-count-gt16-via-else-count-gt16+then-count-eq0}

pub returns-then-count-gt16 : goal.returns-then-count-gt16
unfolding blocks viewed check_no
returns-then-count-gt16 c = record {
  fields = elim c.then-count-gt16.branch [
    | then-count-gt16-via-then-count-gt16 w ↦ count-over no_block (block _) 16 _ _ _ (many-count block_in 852 16 _) (omega arith)
    | then-count-gt16-via-else-count-gt16+then-count-eq0 w ↦ count_none no_block (block _) 16 _ _ _ (many-count block_in 852 16 _) (search rules)
  ];
  found = tt;
}

pub loop-i-init : goal.loop-i-init
loop-i-init c = surveyed-none _ _ _ _ _ _ _ c.requires.0 (many-count block_in 852 16 _) (omega arith) (omega arith) _ (rw (sym c.unseen.ensures.left) at c.unseen.ensures)

pub entry-b-requires : goal.entry-b-requires
entry-b-requires c = omega (arith, c.requires.1)

pub look-found-requires : goal.look-found-requires
look-found-requires c =
    let e = fine-check _ _ c.in_ok-check_block.ensures in
    (surveyed-room _ _ _ _ _ _ _ c.requires.0 (many-count block_in 852 16 _) (omega arith) _ _ _ c.loop-i.invariant _ (omega arith) e, e, c.entry-b.ensures.1)

pub returns-in_err-check_block : goal.returns-in_err-check_block
unfolding blocks viewed
returns-in_err-check_block c =
    let g = many-entry block_in 852 16 c.loop-i.i c.args.list.now _ no_block c.entry-b.ensures.0 (omega arith) in
    rw (handed _ c.in_err-check_block.field-0.0 c.from_residual.ensures.1)
    (record { fields = checking-bad _ _ _ _ _ _ (many-count block_in 852 16 _) _ c.loop-i.invariant.fields no_block (omega arith) (omega arith) _ (c.in_err-check_block.ensures ∙ ap (block c.args.version).check g) _ _ refl; found = tt })

pub loop-i-preserved : goal.loop-i-preserved
loop-i-preserved c =
    let g = many-entry block_in 852 16 c.loop-i.i c.args.list.now _ no_block c.entry-b.ensures.0 (omega arith) in
    let l = rw g at c.look-found.ensures in
    surveyed-more _ _ _ _ _ _ _ c.requires.0 (many-count block_in 852 16 _) (omega arith) _ _ _ c.loop-i.invariant no_block (omega arith) (c.in_ok-check_block.ensures ∙ ap (block c.args.version).check g) _ _ l.0 l.1

pub returns : goal.returns
returns c =
    let s = c.args in
    let i = subst (λ (o : ℕ). Surveyed s.version s.x c.alone_share-alone.result.0 o s.at.0 s.held (blocks_of s.list.now s.held).list c.loop-i.found.seen c.loop-i.found.end.0 c.loop-i.i) c.unseen.ensures.left c.loop-i.invariant in
    let a = surveyed-all _ _ (blocks_of s.list.now s.held) _ _ _ (many-count block_in 852 16 _) (omega arith) c.alone_share-alone.ensures _ _ _ i (omega arith) _ _ _ c.conclude.ensures refl in
    record { fields = a.0; found = (a.1, a.2) }
