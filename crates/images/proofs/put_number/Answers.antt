-- `images::put_number` meets its contract. Assumes nothing.
use borrow.Author.Rules.{rules}
use Rattle.images.proofs.Copies.{number-absent, number-present, number_fits}
use Rattle.optional.specs.declared.OptionalNumber.{OptionalNumber}
use Prim.Native.Nat.{◌<◌}
use Rattle.cells.proofs.Stores.{filled_none, filled_next, filled-all}
use native.Mathlib.Omega.{arith}
use mathlib.Core.Path.{sym, ap, ◌∙◌}
use Rattle.images.proofs.put_number.Goals as goal

pub returns-then-v : goal.returns-then-v
returns-then-v c = let e = c.load_optional-v.ensures in let b : c.load_optional-v.result.value < 4294967296 = search rules in (sym c.if-v.true ∙ ap (λ (v : OptionalNumber). v.present) e, number-present _ _ _ e c.if-v.true (filled-all (filled_next 4 _ _ (filled_next 4 _ _ (filled_none 8 c.args.x.now c.requires.0) (omega arith) c.x-1.given.0 c.store_mark.ensures) (omega arith) c.x-then-v-1.given.0 c.store_word.ensures)), number_fits c.args.x.now _ _ e b)

pub returns : goal.returns
returns c = let e = c.load_optional-v.ensures in let b : c.load_optional-v.result.value < 4294967296 = search rules in (sym c.if-v.false ∙ ap (λ (v : OptionalNumber). v.present) e, number-absent _ _ _ e _ c.if-v.false c.clear.ensures c.requires.0, number_fits c.args.x.now _ _ e b)
