-- `read_front::address::read_unit_name` meets its contract. Assumes nothing.
use mathlib.Core.Path.{refl}
use native.Mathlib.Omega.{arith}
use lib.Dec.{lit<}
use Rattle.codec.proofs.Compose.{getting, left_out, stopping}
use Rattle.cells.specs.Cells.{word_octets, flag_octets, mark_octets}
use Rattle.into.proofs.Ready.{ready-none, ready-next, ready-all}
use Rattle.into.proofs.Telling.{telling, into-stop, into-tell, into-got}
use Rattle.header.specs.Table.{unit_name}
use Rattle.header.specs.Zero.{no_optional_text}
use Rattle.text.specs.Texts.{no_text}
use Rattle.record_octets.specs.Record.{optional_text_octets, text_octets}
use Rattle.read_front.proofs.address.read_unit_name.Goals as goal

pub returns-in_err-present : goal.returns-in_err-present
unfolding unit_name optional_text_octets
returns-in_err-present c = into-stop (no_optional_text) _ c.in_err-present.field-0.0 c.from_residual.ensures.1 (search (stopping, c.in_err-present.ensures) depth 14 fits 6000)

pub returns-then-present : goal.returns-then-present
unfolding unit_name optional_text_octets
returns-then-present c = into-tell (record { present = c.in_ok-present.present; text = c.read_text.ensures.value }) _ (search (telling, refl, c.if-present.true, c.read_text.ensures.told, c.in_ok-present.ensures) depth 14 fits 6000) c.read_text.ensures.held (λ h. (ready-all (ready-next 68 (ready-next 4 (ready-none 72 c.args.x.now c.requires.0) (omega arith) _ _ c.x-1.given.0 c.store_mark.ensures) (omega arith) _ _ c.x-then-present-1.given.0 h.0), record { text = h.1 }))

pub returns : goal.returns
unfolding unit_name optional_text_octets mark_octets flag_octets text_octets word_octets no_optional_text
returns c = into-got (no_optional_text) _ (left_out (unit_name _) _ _ (λ b. record { present = b; text = no_text }) _ _ c.if-present.false (search (getting, c.in_ok-present.ensures) depth 12)) c.requires.0 (record { text = record { chars = refl; len = lit< tt } })
