-- `arguments::check_posting` meets its contract. Assumes nothing.
use mathlib.Core.Path.{refl, ap, sym, ◌∙◌, subst}
use Prim.Native.Nat.{◌<◌}
use lib.Dec.{lit<}
use Rattle.codec.specs.Verdict.{Verdict}
use Rattle.codec.proofs.Compose.{handed}
use Rattle.arguments.specs.Arguments.{has_block, block_at, asks, some_recipient, posting_fault}
use Rattle.record_octets.specs.Record.{header_in}
use Rattle.writer.specs.Writing.{fault_of}
use Rattle.arguments.specs.Told.{pending_no, answer_says, answer_place}
use Rattle.arguments.proofs.Told.{written-says, written-valid, written-bad, block-named, at-record, at_block, at-group, at-addressees, at_none}
use Rattle.arguments.proofs.check_posting.Goals as goal

pub returns-in_err-by_record : goal.returns-in_err-by_record
unfolding posting_fault
returns-in_err-by_record c =
    let h = header_in c.args.h.now in
    let n = c.args.number in
    let m = c.args.count.0 in
    let e = c.in_err-by_record.ensures in
    rw (handed _ c.in_err-by_record.field-0.0 c.from_residual.ensures.1)
    (e.0 ∙ written-says h m _ c.check.ensures ∙ at-record (fault_of h m) (has_block h n) (asks (block_at h n)) (some_recipient h) 20 21 (written-bad h m _ c.check.ensures _ e.0), e.1)

pub returns-then-not-has_block : goal.returns-then-not-has_block
unfolding posting_fault pending_no
returns-then-not-has_block c =
    let h = header_in c.args.h.now in
    let n = c.args.number in
    let m = c.args.count.0 in
    let valid = written-valid h m _ c.check.ensures c.in_ok-by_record.ensures.0 in
    (c.refusal.ensures.0 ∙ at_block (fault_of h m) (has_block h n) (asks (block_at h n)) (some_recipient h) 20 21 valid (sym c.has_block.ensures ∙ c.if-not-has_block.true), c.refusal.ensures.1)

pub returns-then-not-asks_any : goal.returns-then-not-asks_any
unfolding posting_fault pending_no
returns-then-not-asks_any c =
    let h = header_in c.args.h.now in
    let n = c.args.number in
    let m = c.args.count.0 in
    let valid = written-valid h m _ c.check.ensures c.in_ok-by_record.ensures.0 in
    let there = sym c.has_block.ensures ∙ c.if-not-has_block.false in
    let same = c.asks_any.ensures ∙ ap asks (block-named h n m _ valid there c.requires.1) in
    (c.refusal-then-not-asks_any.ensures.0 ∙ at-group (fault_of h m) (has_block h n) (asks (block_at h n)) (some_recipient h) 20 21 valid there (lit< tt) (sym same ∙ c.if-not-asks_any.true), c.refusal-then-not-asks_any.ensures.1)

pub returns-then-not-some_recipient : goal.returns-then-not-some_recipient
unfolding posting_fault pending_no
returns-then-not-some_recipient c =
    let h = header_in c.args.h.now in
    let n = c.args.number in
    let m = c.args.count.0 in
    let valid = written-valid h m _ c.check.ensures c.in_ok-by_record.ensures.0 in
    let there = sym c.has_block.ensures ∙ c.if-not-has_block.false in
    let same = c.asks_any.ensures ∙ ap asks (block-named h n m _ valid there c.requires.1) in
    (c.refusal-then-not-some_recipient.ensures.0 ∙ at-addressees (fault_of h m) (has_block h n) (asks (block_at h n)) (some_recipient h) 20 21 valid there (sym same ∙ c.if-not-asks_any.false) (sym c.some_recipient.ensures ∙ c.if-not-some_recipient.true), c.refusal-then-not-some_recipient.ensures.1)

pub returns : goal.returns
unfolding posting_fault answer_says answer_place
returns c =
    let h = header_in c.args.h.now in
    let n = c.args.number in
    let m = c.args.count.0 in
    let valid = written-valid h m _ c.check.ensures c.in_ok-by_record.ensures.0 in
    let there = sym c.has_block.ensures ∙ c.if-not-has_block.false in
    let same = c.asks_any.ensures ∙ ap asks (block-named h n m _ valid there c.requires.1) in
    (at_none (fault_of h m) (has_block h n) (asks (block_at h n)) (some_recipient h) 20 21 valid there (sym same ∙ c.if-not-asks_any.false) (sym c.some_recipient.ensures ∙ c.if-not-some_recipient.false), refl)
