-- `arguments::check_receipt` meets its contract. Assumes nothing.
use mathlib.Core.Path.{refl, ap, sym, ◌∙◌, subst}
use Prim.Native.Nat.{◌<◌}
use lib.Dec.{lit<}
use mathlib.Core.Bool.{◌&&◌}
use Rattle.header.specs.declared.Block.{Block}
use Rattle.codec.specs.Verdict.{Verdict}
use Rattle.codec.proofs.Compose.{handed}
use Rattle.arguments.specs.Arguments.{has_block, block_at, one_recipient, receipt_fault}
use Rattle.record_octets.specs.Record.{header_in}
use Rattle.writer.specs.Writing.{fault_of}
use Rattle.arguments.specs.Told.{pending_no, answer_says, answer_place}
use Rattle.arguments.proofs.Told.{written-says, written-valid, written-bad, block-named, at-record, at_block, at-group, at-addressees, at_none}
use Rattle.arguments.proofs.check_receipt.Goals as goal

pub returns-in_err-by_record : goal.returns-in_err-by_record
unfolding receipt_fault
returns-in_err-by_record c =
    let h = header_in c.args.h.now in
    let n = c.args.number in
    let m = c.args.count.0 in
    let e = c.in_err-by_record.ensures in
    rw (handed _ c.in_err-by_record.field-0.0 c.from_residual.ensures.1)
    (e.0 ∙ written-says h m _ c.check.ensures ∙ at-record (fault_of h m) (has_block h n) (block_at h n).response.present (h.front.originator.present && one_recipient h) 24 25 (written-bad h m _ c.check.ensures _ e.0), e.1)

pub returns-then-not-has_block : goal.returns-then-not-has_block
unfolding receipt_fault pending_no
returns-then-not-has_block c =
    let h = header_in c.args.h.now in
    let n = c.args.number in
    let m = c.args.count.0 in
    let valid = written-valid h m _ c.check.ensures c.in_ok-by_record.ensures.0 in
    (c.refusal.ensures.0 ∙ at_block (fault_of h m) (has_block h n) (block_at h n).response.present (h.front.originator.present && one_recipient h) 24 25 valid (sym c.has_block.ensures ∙ c.if-not-has_block.true), c.refusal.ensures.1)

pub returns-then-not-has_response : goal.returns-then-not-has_response
unfolding receipt_fault pending_no
returns-then-not-has_response c =
    let h = header_in c.args.h.now in
    let n = c.args.number in
    let m = c.args.count.0 in
    let valid = written-valid h m _ c.check.ensures c.in_ok-by_record.ensures.0 in
    let there = sym c.has_block.ensures ∙ c.if-not-has_block.false in
    let same = c.has_response.ensures ∙ ap (λ (b : Block). b.response.present) (block-named h n m _ valid there c.requires.1) in
    (c.refusal-then-not-has_response.ensures.0 ∙ at-group (fault_of h m) (has_block h n) (block_at h n).response.present (h.front.originator.present && one_recipient h) 24 25 valid there (lit< tt) (sym same ∙ c.if-not-has_response.true), c.refusal-then-not-has_response.ensures.1)

pub returns-then-not-one_recipient : goal.returns-then-not-one_recipient
unfolding receipt_fault pending_no
returns-then-not-one_recipient c =
    let h = header_in c.args.h.now in
    let n = c.args.number in
    let m = c.args.count.0 in
    let valid = written-valid h m _ c.check.ensures c.in_ok-by_record.ensures.0 in
    let there = sym c.has_block.ensures ∙ c.if-not-has_block.false in
    let same = c.has_response.ensures ∙ ap (λ (b : Block). b.response.present) (block-named h n m _ valid there c.requires.1) in
    (c.refusal-then-not-one_recipient.ensures.0 ∙ at-addressees (fault_of h m) (has_block h n) (block_at h n).response.present (h.front.originator.present && one_recipient h) 24 25 valid there (sym same ∙ c.if-not-has_response.false) (sym c.one_recipient.ensures ∙ c.if-not-one_recipient.true), c.refusal-then-not-one_recipient.ensures.1)

pub returns : goal.returns
unfolding receipt_fault answer_says answer_place
returns c =
    let h = header_in c.args.h.now in
    let n = c.args.number in
    let m = c.args.count.0 in
    let valid = written-valid h m _ c.check.ensures c.in_ok-by_record.ensures.0 in
    let there = sym c.has_block.ensures ∙ c.if-not-has_block.false in
    let same = c.has_response.ensures ∙ ap (λ (b : Block). b.response.present) (block-named h n m _ valid there c.requires.1) in
    (at_none (fault_of h m) (has_block h n) (block_at h n).response.present (h.front.originator.present && one_recipient h) 24 25 valid there (sym same ∙ c.if-not-has_response.false) (sym c.one_recipient.ensures ∙ c.if-not-one_recipient.false), refl)
