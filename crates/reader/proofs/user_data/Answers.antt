-- `reader::user_data` meets its contract. Assumes nothing.
use borrow.Author.Rules.{rules}
use native.Mathlib.Omega.{arith}
use Rattle.reader.proofs.Accepts.{length-within, part-done, part-refused}
use Rattle.reader.proofs.user_data.Goals as goal

pub returns-in-Ok : goal.returns-in-Ok
returns-in-Ok c = let e = part-done _ _ c.in-Ok.ensures.0 in cc

pub returns-in-Err : goal.returns-in-Err
returns-in-Err c = let e = part-refused _ _ c.in-Err.ensures.0 in cc

pub slice_bounds-result-count : goal.slice_bounds-result-count
slice_bounds-result-count c = let h = length-within _ _ c.in-Ok.ensures.0 in omega arith

pub slice_bounds-result-start : goal.slice_bounds-result-start
slice_bounds-result-start c = let h = length-within _ _ c.in-Ok.ensures.0 in search rules
