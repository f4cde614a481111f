-- `ends::format::end_standard_version` meets its contract. Assumes nothing.
use mathlib.Core.Path.{sym, ◌∙◌}
use native.Mathlib.Omega.{arith}
use Rattle.codec.proofs.Compose.{had-size, lacked-size}
use Rattle.header.specs.Table.{maybe, standard_version}
use Rattle.header.specs.Zero.{no_number}
use Rattle.record_octets.specs.Record.{optional_number_in}
use Rattle.ends.proofs.format.end_standard_version.Goals as goal

pub returns-then-lacks_standard_version : goal.returns-then-lacks_standard_version
unfolding standard_version
returns-then-lacks_standard_version c = let n = lacked-size _ no_number (λ y. y.present) 3 (maybe 4 0 15) (sym c.lacks_standard_version.ensures ∙ c.if-lacks_standard_version.true) (optional_number_in c.args.x.now) in omega (arith, n)

pub end_optional-requires : goal.end_optional-requires
unfolding standard_version
end_optional-requires c = let n = had-size _ no_number (λ y. y.present) 3 (maybe 4 0 15) (sym c.lacks_standard_version.ensures ∙ c.if-lacks_standard_version.false) (optional_number_in c.args.x.now) in (omega (arith, n, c.requires.0), c.requires.1)

pub returns : goal.returns
unfolding standard_version
returns c = let n = had-size _ no_number (λ y. y.present) 3 (maybe 4 0 15) (sym c.lacks_standard_version.ensures ∙ c.if-lacks_standard_version.false) (optional_number_in c.args.x.now) in omega (arith, n, c.end_optional.ensures)
