-- `write_group::format::write_standard_version` meets its contract. Assumes nothing.
use borrow.Author.Rules.{rules}
use mathlib.Core.Path.{sym, ◌∙◌}
use native.Mathlib.Omega.{arith}
use Rattle.codec.proofs.Compose.{had-size, had-writes, lacked-writes}
use Rattle.header.specs.Table.{maybe, standard_version}
use Rattle.header.specs.Zero.{no_number}
use Rattle.record_octets.specs.Record.{optional_number_in}
use Rattle.write_group.proofs.format.write_standard_version.Goals as goal

pub returns-then-lacks_standard_version : goal.returns-then-lacks_standard_version
unfolding standard_version
returns-then-lacks_standard_version c = lacked-writes _ _ _ 3 _ (sym c.lacks_standard_version.ensures ∙ c.if-lacks_standard_version.true) _ _ _

pub write_optional-requires : goal.write_optional-requires
unfolding standard_version
write_optional-requires c =
    let n = had-size _ no_number (λ y. y.present) 3 (maybe 4 0 15) (sym c.lacks_standard_version.ensures ∙ c.if-lacks_standard_version.false) (optional_number_in c.args.x.now) in
    ((omega (arith, n, c.requires.0.0), omega (arith, n, c.requires.0.1)), search rules, c.requires.1)

pub returns : goal.returns
unfolding standard_version
returns c = had-writes _ _ _ 3 _ (sym c.lacks_standard_version.ensures ∙ c.if-lacks_standard_version.false) _ _ _ _ _ c.write_optional.ensures
