-- `hexadecimal::line_octets` meets its contract. Assumes nothing.
use borrow.Author.Rules.{rules}
use mathlib.Core.Path.{◌≡◌, sym, ◌∙◌}
use mathlib.Core.Bool.{true, false}
use Rattle.hexadecimal.specs.Lines.{is_line}
use Rattle.hexadecimal.proofs.Digits.{tell-skipped, tell-octets}
use Rattle.hexadecimal.proofs.Filling.{kept_out}
use Rattle.hexadecimal.proofs.line_octets.Goals as goal

pub returns-then-not-is_line : goal.returns-then-not-is_line
returns-then-not-is_line c =
    let e : is_line c.args.line.now ≡ false = sym c.is_line.ensures ∙ c.if-not-is_line.true in
    (tell-skipped c.args.line.now e, kept_out c.args.line.now _ e)

pub put_line-requires : goal.put_line-requires
put_line-requires c = (sym c.is_line.ensures ∙ c.if-not-is_line.false, search rules)

pub returns : goal.returns
returns c =
    let g = c.put_line.ensures in
    let e : is_line c.args.line.now ≡ true = sym c.is_line.ensures ∙ c.if-not-is_line.false in
    (tell-octets c.args.line.now _ e g.0, g.1)
