-- `row_text::digits::put_octets` meets its contract. The invariant: the octets so far are put. Assumes nothing.
use borrow.Author.Rules.{rules}
use mathlib.Core.List.{[], ◌∷◌}
use mathlib.Core.Path.{refl}
use mathlib.Core.Path.{ap}
use lib.ListN.{length}
use Rattle.row_text.proofs.Composing.{same-puts}
use Rattle.row_text.proofs.Lines.{putting-none, putting-room, putting-more, putting-all, octet-lines}
use Rattle.row_text.proofs.digits.put_octets.Goals as goal

pub loop-c-init : goal.loop-c-init
loop-c-init c = putting-none (λ x. x ∷ []) _ _ _ _

pub put_octet-place-requires : goal.put_octet-place-requires
put_octet-place-requires c = let e = ap length (octet-lines c.args.s.now) in putting-room _ _ _ _ _ _ _ _ c.loop-c.invariant 0 _ refl (search rules) (search rules) (search rules)

pub loop-c-preserved : goal.loop-c-preserved
loop-c-preserved c = putting-more _ _ _ _ _ _ _ _ c.loop-c.invariant 0 _ refl (search rules) (search rules) _ _ (search rules) c.put_octet-place.ensures

pub returns : goal.returns
returns c = same-puts (octet-lines c.args.s.now) (putting-all _ _ _ _ _ _ _ _ c.loop-c.invariant (search rules))
