-- `rules::seen::see` meets its contract. Assumes nothing.
use Prim.Native.Nat.{ℕ, ◌-◌}
use mathlib.Core.Path.{◌≡◌, ap, ◌∙◌}
use mathlib.Core.Bool.{true, false, ◌&&◌}
use borrow.Author.Rules.{rules}
use lib.Dec.{leb}
use Rattle.record_octets.specs.Record.{block_in}
use Rattle.rules.specs.Ranks.{rank, better_rank, better_block}
use Rattle.rules.specs.Sees.{owned_rules}
use Rattle.rules.proofs.seen.see.Goals as goal
use Rattle.rules.proofs.seen.see.Goals.{then-f, else-f}

pub returns : goal.returns
unfolding rank
returns c =
    let s = c.args in
    let b = block_in s.b.now in
    let r = c.rank_of.ensures in
    let n = c.share-n.ensures in
    let m = c.body_rank.ensures ∙ ap (λ (k : ℕ). rank owned_rules (b, k)) n in
    let f = c.better.ensures in
    let g = c.better-2.ensures in
    let fits : c.if-f.result ≡ s.f.fits && leb c.share-n.result.0 s.f.left.0 =
    elim c.if-f.branch [
      | then-f w ↦ let h : s.f.fits ≡ true = search rules in rw h w.result-is
      | else-f w ↦ let h : s.f.fits ≡ false = search rules in rw h (w.result-is ∙ h)
    ]
    in
    record {
      rule = (f.0 ∙ ap (λ (k : ℕ). better_rank k s.f.rule.rank) r, f.1 ∙ ap (λ (k : ℕ). better_block k s.f.rule.rank s.number.0 s.f.rule.block.0) r);
      body = (g.0 ∙ ap (λ (k : ℕ). better_rank k s.f.body.rank) m, g.1 ∙ ap (λ (k : ℕ). better_block k s.f.body.rank s.number.0 s.f.body.block.0) m);
      fits = fits ∙ ap (λ (k : ℕ). s.f.fits && leb k s.f.left.0) n;
      left = c.saturating_sub.ensures ∙ ap (λ (k : ℕ). s.f.left.0 - k) n;
    }
