-- `reader::read` meets its contract. Assumes nothing.
use Rattle.codec.proofs.Compose.{handed}
use Rattle.reader.proofs.Filled.{on-done, on-refused}
use Rattle.reader.proofs.read.Goals as goal

pub returns-in_err-length : goal.returns-in_err-length
returns-in_err-length c = rw (handed _ c.in_err-length.field-0.0 c.from_residual.ensures.1) (on-refused _ _ _ c.in_err-length.ensures.0)

pub returns : goal.returns
returns c = on-done _ _ _ _ c.in_ok-length.ensures.0 c.in_ok-length.ensures.1
