-- `checker::part::check_entries` meets its contract. The invariant: the entries so far are legal. Assumes nothing.
use Rattle.std.proofs.Common.{rules, arith, suc, ap, refl, ◌∙◌, ◌*◌, ◌≤◌}
use Rattle.std.proofs.Math.Nat.{mul-le-mul_right}
use Rattle.codec.specs.Refusals.{check_no}
use Rattle.codec.proofs.Compose.{handed}
use Rattle.codec.proofs.ListChecks.{count-over, count_none, checking-none, checking-more, checking-bad, checking-all}
use Rattle.cells.proofs.Lists.{many-count, many-entry}
use Rattle.checker.proofs.part.check_entries.Goals as goal
use Rattle.checker.proofs.part.check_entries.Goals.{then-left-count-via-then-left-count, then-left-count-via-else-left-count+then-count-eq0}

pub returns-then-left-count : goal.returns-then-left-count
unfolding check_no
returns-then-left-count g c =
    let p = g.P.Part in
    let whole = many-count p.held p.OCTETS (suc g.P.Entry.more) _ in
    elim c.then-left-count.branch [
      | then-left-count-via-then-left-count w ↦ count-over p.none p.rule _ _ _ _ whole (omega arith)
      | then-left-count-via-else-left-count+then-count-eq0 w ↦ count_none p.none p.rule _ _ _ _ whole (search rules)
    ]

pub loop-i-init : goal.loop-i-init
loop-i-init g c =
    let p = g.P.Part in
    checking-none p.none p.rule _ _ _ _ (many-count p.held p.OCTETS (suc g.P.Entry.more) _) (omega arith) (omega arith) (omega (arith, c.requires.1))

pub entry-requires : goal.entry-requires
entry-requires g c =
    let p = g.P.Part in
    let more = g.P.Entry.more in
    let m : suc c.loop-i.i * p.OCTETS ≤ suc more * p.OCTETS = mul-le-mul_right p.OCTETS (omega (arith, c.requires.1)) in
    rw c.OCTETS.ensures (omega (arith, m, c.requires.2))

pub check-requires : goal.check-requires
check-requires g c = rw c.OCTETS.ensures at c.entry.ensures.1

pub returns-in_err-check : goal.returns-in_err-check
returns-in_err-check g c =
    let p = g.P.Part in
    let more = g.P.Entry.more in
    let lent = rw c.OCTETS.ensures at c.entry.ensures.0 in
    let m = many-entry p.held p.OCTETS (suc more) c.loop-i.i c.args.list.now _ p.none lent (omega (arith, c.requires.1)) in
    rw (handed _ c.in_err-check.field-0.0 c.from_residual.ensures.1)
    (checking-bad p.none p.rule _ _ _ _ (many-count p.held p.OCTETS (suc more) _) _ c.loop-i.invariant p.none (omega arith) (omega (arith, c.requires.1)) _ (c.in_err-check.ensures ∙ ap p.rule.check m) _ _ refl)

pub loop-i-preserved : goal.loop-i-preserved
loop-i-preserved g c =
    let p = g.P.Part in
    let more = g.P.Entry.more in
    let lent = rw c.OCTETS.ensures at c.entry.ensures.0 in
    let m = many-entry p.held p.OCTETS (suc more) c.loop-i.i c.args.list.now _ p.none lent (omega (arith, c.requires.1)) in
    checking-more p.none p.rule _ _ _ _ (many-count p.held p.OCTETS (suc more) _) _ c.loop-i.invariant p.none (omega arith) (omega (arith, c.requires.1)) _ (c.in_ok-check.ensures ∙ ap p.rule.check m) _ refl

pub returns : goal.returns
unfolding check_no
returns g c =
    let p = g.P.Part in checking-all p.none p.rule _ _ _ _ (many-count p.held p.OCTETS (suc g.P.Entry.more) _) _ c.loop-i.invariant (omega arith)
