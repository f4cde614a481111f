-- Settling keeps the marks well. Assumes nothing.
use mathlib.Core.Path.{◌≡◌, refl}
use mathlib.Core.Logic.{◌⊎◌, inl, inr, ⊎_elim}
use mathlib.Core.Bool.{Bool, true, false, cond, ◌&&◌, false≢true}
use mathlib.Core.Option.{Option, none, some}
use Prim.Native.Nat.{ℕ}
use native.Mathlib.Omega.{arith}
use lib.Dec.{T}
use Rattle.order.specs.Requests.{Ask, Mark, blank, any_of, answered_by, opens, open_to, write, settle, Fit, Shut, WellMarked}

no-two : {X : Type 0} → ◌≡◌ {A = Option ℕ} none (some 2) → X
no-two e = let z : ◌≡◌ {A = ℕ} 0 1 = cc in absurd (omega arith)

pub blank-well : (a : Ask) → WellMarked a blank
unfolding Fit
blank-well a = record { machine_fits = tt; acknowledge_fits = tt; reply_fits = tt; two_shuts = ⊎_elim no-two (⊎_elim no-two no-two) }

fit-write : (a : Bool) (ans : ℕ → Bool) (c : ℕ) (old : Option ℕ) → Fit a ans old → Fit a ans (write (opens a (ans c) old) c old)
unfolding Fit write opens
fit-write a ans c (some x) f = f
fit-write a ans c none f = go (a && ans c) (λ t. t)
  where
    go : (b : Bool) → (T b → T (a && ans c)) → Fit a ans (cond b (some c) none)
    go true h = h tt
    go false h = tt

write_two : (b : Bool) (c : ℕ) (old : Option ℕ) → write b c old ≡ some 2 → (old ≡ some 2) ⊎ (c ≡ 2)
unfolding write
write_two true c old e = inr (cc)
write_two false c old e = inl e

shut-opens : (a b : Bool) (old : Option ℕ) → Shut a old → opens a b old ≡ false
unfolding Shut opens
shut-opens a b (some x) s = refl
shut-opens true b none s = absurd s
shut-opens false b none s = refl

shut-two : (a : Bool) (old : Option ℕ) → Shut a (write (opens a true old) 2 old)
unfolding Shut opens write
shut-two a (some x) = tt
shut-two true none = tt
shut-two false none = tt

cond-some : {X : Type 0} (b : Bool) (x y : X) → cond b (some x) none ≡ some y → (b ≡ true) × (x ≡ y)
cond-some true x y e = (refl, cc)
cond-some false x y e = (cc, cc)

module _ (a : Ask) (c : ℕ) (s : Mark) (h : WellMarked a s) where
  -- no request is open behind the writing
  abbrev Closed : Type 0
  Closed =
      Shut a.machine (write (open_to a c s).machine c s.machine)
      × Shut a.acknowledge (write (open_to a c s).acknowledge c s.acknowledge)
      × Shut a.reply (write (open_to a c s).reply c s.reply)

  -- a 2 that was there leaves nothing open to any code
  old-two : any_of (open_to a c s) ≡ true → (s.machine ≡ some 2) ⊎ (s.acknowledge ≡ some 2) ⊎ (s.reply ≡ some 2) → Closed
  unfolding open_to
  old-two p o =
      let u = h.two_shuts o in
      absurd (false≢true (rw (shut-opens a.machine _ s.machine u.0, shut-opens a.acknowledge _ s.acknowledge u.1, shut-opens a.reply _ s.reply u.2) at p))

  -- a 2 that is written closes all
  new_two : c ≡ 2 → Closed
  unfolding answered_by open_to
  new_two e = rw e (shut-two a.machine s.machine, shut-two a.acknowledge s.acknowledge, shut-two a.reply s.reply)

pub settle-well : (a : Ask) (c : ℕ) (s t : Mark) → WellMarked a s → settle a c s ≡ some t → WellMarked a t
unfolding settle open_to
settle-well a c s t h e =
    let p = cond-some (any_of (open_to a c s)) _ t e in
    let old = old-two a c s h p.0 in
    let new = new_two a c s h in
    rw (← p.1) (record {
      machine_fits = fit-write a.machine (λ c. (answered_by c).machine) c s.machine h.machine_fits;
      acknowledge_fits = fit-write a.acknowledge (λ c. (answered_by c).acknowledge) c s.acknowledge h.acknowledge_fits;
      reply_fits = fit-write a.reply (λ c. (answered_by c).reply) c s.reply h.reply_fits;
      two_shuts =
          ⊎_elim (λ f. ⊎_elim (λ g. old (inl g)) new (write_two _ c s.machine f))
          (⊎_elim (λ f. ⊎_elim (λ g. old (inr (inl g))) new (write_two _ c s.acknowledge f))
          (λ f. ⊎_elim (λ g. old (inr (inr g))) new (write_two _ c s.reply f)));
    })
