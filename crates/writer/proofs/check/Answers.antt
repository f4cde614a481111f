-- `writer::check` meets its contract. Assumes nothing.
use mathlib.Core.Path.{ap, ◌∙◌}
use native.Mathlib.Omega.{arith}
use Rattle.std.proofs.lemmas.Result.{err_from_is_err_and}
use Rattle.codec.specs.declared.BlockNumber.{BlockNumber}
use Rattle.record_octets.specs.Record.{header_in}
use Rattle.writer.specs.Writing.{told, done}
use Rattle.survey.proofs.Surveys.{fine-check}
use Rattle.writer.proofs.Ways.{fine-finding, refusal-tells, bad-fields, bad-found, too_long, all_right}
use Rattle.writer.proofs.Parts.{size-bounded}
use Rattle.writer.proofs.check.Goals as goal

pub returns-in_err-survey : goal.returns-in_err-survey
returns-in_err-survey c =
    let p = err_from_is_err_and _ c.from_residual.ensures.1 in
    ap told p.1 ∙ refusal-tells _ _ 0 p.2.0 p.2.1 p.2.2 ∙ bad-fields (header_in c.args.h.now) c.args.count.0 _ _ c.in_err-survey.ensures.fields

pub returns-in_err-survey-2 : goal.returns-in_err-survey-2
returns-in_err-survey-2 c =
    let z = fine-check _ _ c.in_ok-survey.ensures.fields in
    let f = rw c.in_err-survey-2.was at c.in_ok-survey.ensures.found.0 in
    let p = err_from_is_err_and _ c.from_residual-in_err-survey-2.ensures.1 in
    ap told p.1 ∙ refusal-tells _ _ _ p.2.0 p.2.1 (ap (λ (n : BlockNumber). n.0) p.2.2) ∙ bad-found (header_in c.args.h.now) c.args.count.0 z _ f

pub overflow_sub-octets : goal.overflow_sub-octets
overflow_sub-octets c =
    let z = fine-check _ _ c.in_ok-survey.ensures.fields in
    omega (arith, size-bounded (header_in c.args.h.now) z, c.whole_octets-octets.ensures, c.in_ok-survey.ensures.found.1)

pub returns-then-octets-count : goal.returns-then-octets-count
returns-then-octets-count c =
    let z = fine-check _ _ c.in_ok-survey.ensures.fields in
    let r = fine-finding _ (rw c.in_ok-survey-2.was at c.in_ok-survey.ensures.found.0) in
    let o = rw c.in_ok-survey.ensures.found.1 at c.whole_octets-octets.ensures in
    refusal-tells _ _ 0 c.from.ensures.0 c.from.ensures.1 c.from.ensures.2
    ∙ too_long (header_in c.args.h.now) c.args.count.0 z r (omega (arith, o, size-bounded (header_in c.args.h.now) z))

pub returns : goal.returns
unfolding told
returns c =
    let z = fine-check _ _ c.in_ok-survey.ensures.fields in
    let r = fine-finding _ (rw c.in_ok-survey-2.was at c.in_ok-survey.ensures.found.0) in
    let o = rw c.in_ok-survey.ensures.found.1 at c.whole_octets-octets.ensures in
    ap done o ∙ all_right (header_in c.args.h.now) c.args.count.0 z r (omega (arith, o, size-bounded (header_in c.args.h.now) z))
