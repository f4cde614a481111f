-- `read_leaves::texts::read_text` meets its contract. Assumes nothing.
use Rattle.codec.proofs.Compose.{reading-stop, getting}
use Rattle.into.proofs.Telling.{into-stop, into-got}
use Rattle.text.specs.Texts.{no_text, text}
use Rattle.text.specs.declared.Text.{Text}
use Rattle.std.specs.Prelude.{◌≡◌, Ok, Err}
use Rattle.bits.specs.Datagrams.{bits_in}
use Rattle.codec.specs.Refusals.{answer_of}
use Rattle.read_leaves.proofs.texts.read_text.Goals as goal
use Rattle.read_leaves.proofs.texts.read_text.Goals.{In_ok-t, In_err-t}

-- what is gone on with, and what is handed on, is the text's reading
read : (c : In_ok-t) → answer_of {A = Text} (Ok (c.in_ok-t.t, c.in_ok-t.next)) ≡ (text c.args.most).read (bits_in c.args.s) c.args.at.0
read c = cc c.in_ok-t.was

stopped : (c : In_err-t) → answer_of {A = Text} (Err c.in_err-t.field-0.0) ≡ (text c.args.most).read (bits_in c.args.s) c.args.at.0
stopped c = cc c.in_err-t.was

pub returns : goal.returns
returns c = into-got _ _ (search (getting, read (goal.at.returns c).In_ok-t) depth 6) c.store_text.ensures.octets c.store_text.ensures.typed

pub returns-in_err-t : goal.returns-in_err-t
returns-in_err-t c = into-stop no_text _ c.in_err-t.field-0.0 c.from_residual.ensures.1 (reading-stop _ _ _ _ (stopped (goal.at.returns-in_err-t c).In_err-t))
