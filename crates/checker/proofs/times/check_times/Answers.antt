-- `checker::times::check_times` meets its contract. Assumes nothing.
use Prim.Native.Nat.{ℕ, zero, suc}
use mathlib.Core.Path.{◌≡◌, refl, ap, sym, ◌∙◌}
use mathlib.Core.Bool.{Bool, true, false}
use Rattle.codec.proofs.Compose.{checking, handed}
use Rattle.codec.specs.Codec.{Codec, first, flag, nothing, present, viewed, ◌then_by◌, ◌&◌}
use Rattle.header.specs.Table.{times, optional_stamp, optional_dtg, optional_requests, requests}
use Rattle.header.specs.declared.OptionalRequests.{OptionalRequests}
use Rattle.record_octets.specs.Record.{times_in, optional_stamp_in, optional_dtg_in}
use Rattle.checker.proofs.times.check_times.Goals as goal

-- every value of G7 is legal
requests-fine : (y : OptionalRequests) → optional_requests.check y ≡ 0
unfolding optional_requests requests viewed ◌then_by◌ flag present nothing first
requests-fine y = go y.present
  where
    go : (b : Bool) → optional_requests.check (record { present = b; requests = y.requests }) ≡ 0
    go true = refl
    go false = refl

first-none : (f : ℕ) → first f 0 ≡ f
unfolding first
first-none zero = refl
first-none (suc f) = refl

-- what all but the requests say
before-requests : {A : Type 0} (c : Codec A) (x : A) (y : OptionalRequests) (r : ℕ) → r ≡ c.check x → r ≡ (c & optional_requests).check (x, y)
unfolding ◌then_by◌
before-requests c x y r h = h ∙ sym (ap (first (c.check x)) (requests-fine y) ∙ first-none (c.check x))

pub returns-in_err-check_optional_part : goal.returns-in_err-check_optional_part
unfolding times optional_stamp optional_dtg times_in optional_stamp_in optional_dtg_in
returns-in_err-check_optional_part c =
    rw (handed _ c.in_err-check_optional_part.field-0.0 c.from_residual.ensures.1) (search (checking, c.in_err-check_optional_part.ensures) depth 14 fits 6000)

pub returns : goal.returns
unfolding times optional_stamp optional_dtg times_in optional_stamp_in optional_dtg_in
returns c = search (checking, before-requests, c.in_ok-check_optional_part.ensures) depth 14 fits 6000
