-- `writer::write` meets its contract. Assumes nothing.
use borrow.Author.Rules.{rules}
use mathlib.Core.Path.{sym, ap, ◌∙◌}
use native.Mathlib.Omega.{arith}
use Rattle.codec.proofs.Compose.{handed}
use Rattle.record_octets.specs.Record.{header_in}
use Rattle.writer.specs.Writing.{told, done}
use Rattle.writer.proofs.Ways.{refusal-tells, refused-alike, refused-stays, valid-done, no_room, is-written, valid-fields}
use Rattle.writer.proofs.write.Goals as goal

pub returns-in_err-size : goal.returns-in_err-size
returns-in_err-size c =
    rw (handed _ c.in_err-size.field-0.0 c.from_residual.ensures.1) (
      refused-alike (header_in c.args.h.now) c.args.count.0 _ c.in_err-size.ensures c.args.out.now,
      refused-stays (header_in c.args.h.now) c.args.count.0 _ c.in_err-size.ensures c.args.out.now,
    )

pub returns-then-out-size : goal.returns-then-out-size
returns-then-out-size c =
    let v = valid-done (header_in c.args.h.now) c.args.count.0 _ c.in_ok-size.ensures in
    let n = no_room (header_in c.args.h.now) c.args.count.0 v.0 c.args.out.now (omega (arith, v.1)) in
    (refusal-tells _ _ 0 c.from.ensures.0 c.from.ensures.1 c.from.ensures.2 ∙ n.0, n.1)

pub write_header-requires : goal.write_header-requires
write_header-requires c =
    let v = valid-done (header_in c.args.h.now) c.args.count.0 _ c.in_ok-size.ensures in
    (valid-fields (header_in c.args.h.now) c.args.count.0 v.0, sym v.1, omega (arith, v.1), search rules)

pub returns : goal.returns
unfolding told
returns c =
    let v = valid-done (header_in c.args.h.now) c.args.count.0 _ c.in_ok-size.ensures in
    let w = is-written (header_in c.args.h.now) c.args.count.0 v.0 c.args.out.now (omega (arith, v.1)) in
    (ap done (sym v.1) ∙ w.0, c.write_header.ensures ∙ w.1)
