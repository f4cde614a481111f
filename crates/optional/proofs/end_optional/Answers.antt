-- `optional::end_optional` meets its contract. Assumes nothing.
use borrow.Author.Rules.{rules}
use Rattle.codec.specs.Codec.{◌then_by◌, viewed, flag, number}
use Rattle.codec.proofs.Compose.{present-size, absent-size}
use Rattle.number.specs.Numbers.{number_of}
use Rattle.optional.specs.Optionals.{optional_number}
use Rattle.optional.proofs.end_optional.Goals as goal

pub end_flag-behind-requires : goal.end_flag-behind-requires
unfolding optional_number ◌then_by◌ viewed flag
end_flag-behind-requires c = search rules

pub end_number-requires : goal.end_number-requires
unfolding optional_number ◌then_by◌ viewed flag number
end_number-requires c = let a = c.args in let e = present-size 0 (number_of a.f 3) a.x.present a.x.value c.if-x.true in search rules

pub returns-then-x : goal.returns-then-x
unfolding optional_number ◌then_by◌ viewed flag number
returns-then-x c = let a = c.args in let e = present-size 0 (number_of a.f 3) a.x.present a.x.value c.if-x.true in search rules

pub returns : goal.returns
unfolding optional_number ◌then_by◌ viewed flag
returns c = let a = c.args in let e = absent-size 0 (number_of a.f 3) a.x.present a.x.value c.if-x.false in search rules
