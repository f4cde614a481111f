-- `writer::survey_record` meets its contract. Assumes nothing.
use borrow.Author.Rules.{rules}
use Prim.Native.Nat.{ℕ, ◌+◌}
use mathlib.Core.Path.{◌≡◌, ap, sym, ◌∙◌}
use Rattle.codec.specs.Codec.{first}
use Rattle.codec.specs.Refusals.{finding_says}
use Rattle.codec.proofs.Compose.{handed}
use Rattle.header.specs.Table.{front, blocks}
use Rattle.record_octets.specs.Record.{header_in}
use Rattle.std.proofs.lemmas.Result.{IfOk-weaker}
use Rattle.survey.specs.declared.Survey.{Survey}
use Rattle.writer.specs.Writing.{record_verdict, fields_end}
use Rattle.writer.proofs.Parts.{check-by, size-by}
use Rattle.survey.proofs.Surveys.{fine-check, first-faulty}
use Rattle.writer.proofs.survey_record.Goals as goal

pub blocks_place-at-requires : goal.blocks_place-at-requires
unfolding header_in
blocks_place-at-requires c = (fine-check _ _ c.in_ok-check_front.ensures, c.requires)

pub returns-in_err-check_front : goal.returns-in_err-check_front
unfolding header_in
returns-in_err-check_front c =
    rw (handed _ c.in_err-check_front.field-0.0 c.from_residual.ensures.1)
    (record { fields = first-faulty _ _ _ _ _ c.in_err-check_front.ensures; found = tt })

pub survey_blocks-requires : goal.survey_blocks-requires
survey_blocks-requires c = (c.blocks_place-at.ensures.1, search rules)

pub returns : goal.returns
unfolding first header_in
returns c =
    let h = header_in c.args.h.now in
    let z : front.check h.front ≡ 0 = fine-check _ _ c.in_ok-check_front.ensures in
    let v = c.front_version-version.ensures in
    let e = rw c.setting_of-x.ensures at c.survey_blocks.ensures.found in
    let Found : Survey → Type 0 = λ s. (finding_says s.finding ≡ record_verdict h c.args.count.0) × (s.end.0 ≡ fields_end h) in
    record {
      fields = c.survey_blocks.ensures.fields ∙ check-by h.blocks v ∙ sym (ap (λ (k : ℕ). first k ((blocks h.front.version).check h.blocks)) z);
      found = IfOk-weaker _ _ Found (λ s r. (r.0, r.1 ∙ ap (λ (k : ℕ). c.blocks_place-at.result.0 + k) (size-by h.blocks v) ∙ c.blocks_place-at.ensures.0)) e;
    }
