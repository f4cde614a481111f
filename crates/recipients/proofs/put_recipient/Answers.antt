-- `recipients::put_recipient` meets its contract. Assumes nothing.
use Rattle.recipients.proofs.Blanks.{put-held, put-new}
use Rattle.table_octets.proofs.Back.{recipient-long}
use Rattle.cells.proofs.Inserted.{inserted-long}
use lib.ListN.{length}
use native.Mathlib.Omega.{arith}
use mathlib.Core.Path.{refl, ap, ◌∙◌}
use Rattle.recipients.proofs.put_recipient.Goals as goal

pub returns-in-Ok : goal.returns-in-Ok
returns-in-Ok c = (c.requires.0, omega arith, λ l h. put-held l _ _ h _ c.in-Ok.field-0 _ refl c.in-Ok.ensures.2)

pub returns-in-Err : goal.returns-in-Err
returns-in-Err c = let p = c.requires in let m = c.in-Err.ensures.0 in let t = c.insert_blank.ensures.1 in (ap length c.insert_blank.ensures.0 ∙ inserted-long 92 c.args.count c.in-Err.at _ c.args.s.now m (omega (arith, p)) (recipient-long _ t) ∙ p.0, omega arith, λ l h. put-new l _ _ h _ c.in-Err.at _ _ refl c.in-Err.ensures.2 p.2 m t c.insert_blank.ensures.0)
